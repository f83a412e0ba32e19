use Rattle.gl_explain.proofs.phrases.push_act.Goals as goal

pub returns-in-Acq : goal.returns-in-Acq
returns-in-Acq c = rw c.in-Acq.is c.push_thing.ensures

pub returns-in-Rel : goal.returns-in-Rel
returns-in-Rel c = rw c.in-Rel.is c.push_thing-in-Rel.ensures

pub returns-in-VRead : goal.returns-in-VRead
returns-in-VRead c = rw c.in-VRead.is c.push_thing-in-VRead.ensures

pub returns-in-VWrite : goal.returns-in-VWrite
returns-in-VWrite c = rw c.in-VWrite.is c.push_thing-in-VWrite.ensures

pub returns-in-Fork : goal.returns-in-Fork
returns-in-Fork c = rw c.in-Fork.is c.push_thread.ensures

pub returns-in-Join : goal.returns-in-Join
returns-in-Join c = rw c.in-Join.is c.push_thread-in-Join.ensures
