use Rattle.std.proofs.Common.{◌<◌, length, rules}
use Rattle.gl_trace.proofs.TracerLemmas.{ended_mark}
use Rattle.gl_trace.proofs.tracer.Tracer.end.Goals as goal

pub returns-clause-traces : goal.returns-clause-traces
returns-clause-traces c = λ s h.
    let traces = c.in_ok-act.ensures.traces s h in
    let there : c.args.thread < length c.act.new.self.ended = search rules in
    record {
      lists = traces.lists;
      next = traces.next;
      numbers = traces.numbers;
      ended = λ u below. ended_mark c.act.new.self.ended c.args.thread u c.from.result s.ended c.from.ensures there (traces.ended u below);
    }

pub returns-clause-most : goal.returns-clause-most
returns-clause-most c = λ a b le h. let most = c.in_ok-act.ensures.most a b le h in record { next = most.next; numbers = most.numbers }
