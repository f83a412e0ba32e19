-- The marks of a line that is taken.
use Rattle.std.proofs.Common.{◌≡◌, ◌∙◌, ℕ, ◌+◌, ◌-◌, List, [], ◌∷◌, ◌++◌, length, sym, subst, arith}
use Rattle.gl_model.specs.declared.event.Element.TheVariants.{Thread}
use Rattle.gl_model.specs.declared.row.Item.{Item}
use Rattle.gl_model.specs.declared.row.Item.TheVariants.{Commit as CommitsOn}
use Rattle.gl_model.specs.declared.row.Judged.{Judged}
use Rattle.gl_model.specs.declared.row.Judged.TheVariants.{Performed}
use Rattle.gl_model.specs.Trace.{Line}
use Rattle.gl_clocks.specs.Clocks.{clocks, tick}
use Rattle.gl_lines.specs.Traced.{block_of, traced, history}
use Rattle.gl_lines.specs.TraceRows.{access_at}
use Rattle.gl_lines.specs.TraceStates.{AreSound}
use Rattle.gl_explain.specs.Marks.{plain_behind}
use Rattle.gl_explain.proofs.Taken.{own_known, commit_known}

-- a thread's own clock is one above the tick of its next plain access
pub own_mark : (lines : List Line) (l : Line) (t n : ℕ) → AreSound (lines ++ l ∷ []) → l.thread ≡ t → n
    ≡ clocks (history lines) (Thread t) t → n ≡ tick (plain_behind lines t) + 1
own_mark lines l t n sound mine is =
    let own : clocks (history lines) (Thread t) t
    ≡ block_of t (traced lines) + 2 = subst (λ u. clocks (history lines) (Thread u) u ≡ block_of u (traced lines) + 2) mine
    (own_known lines l sound) in
    let all : n ≡ block_of t (traced lines) + 2 = is ∙ own in
    omega arith

-- a line of a trace from its thread, item and verdict
abbrev line : ℕ → Item → Judged → Line
line t item judged = record { thread = t; item = item; judged = judged }

-- the mark of a commit, one below its thread's clock after it, is one above the tick of its access
pub mark_commit : (lines : List Line) (t : ℕ) (item : Item) (judged : Judged) (reads writes : List ℕ) (n m : ℕ) → item
    ≡ CommitsOn reads writes → judged ≡ Performed → n ≡ clocks (history (lines ++ line t item judged ∷ [])) (Thread t) t → m ≡ n - 1 → m
    ≡ tick (access_at lines (line t item judged)) + 1
mark_commit lines t item judged reads writes n m is performed known less =
    let P : Item → Judged → Type 0 = λ i j. n ≡ clocks (history (lines ++ line t i j ∷ [])) (Thread t) t → m
    ≡ tick (access_at lines (line t i j)) + 1 in
    let here : P (CommitsOn reads writes) Performed =
    λ e. (let all : n ≡ length (history lines) + 2 = e ∙ commit_known lines t reads writes in omega arith) in
    subst (λ i. P i judged) (sym is) (subst (λ j. P (CommitsOn reads writes) j) (sym performed) here) known
