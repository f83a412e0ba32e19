use Rattle.std.proofs.Common.{◌≡◌, ◌+◌, ◌∙◌, ℕ, List, pos, map, ap}
use Rattle.std.specs.Prelude.{slice_index}
use Rattle.gl_model.specs.Rising.{with_all}
use Rattle.gl_model.specs.Trace.{look_count}
use Rattle.gl_model.specs.declared.tx.Look.{Look}
use Rattle.gl_model.specs.declared.tx.Number.{Number}
use Rattle.gl_trace.proofs.TracerLemmas.{map_same, own_is_all}
use Rattle.gl_trace.proofs.tracer.Tracer.draw.Goals as goal

pub returns-clause-tx : goal.returns-clause-tx
returns-clause-tx c = λ s h.
    let reads = c.args.reads in
    let look : (ℕ → ℕ) → ℕ → Look = λ n x. record { var = x; value = pos 0; nth = n x } in
    let number : (ℕ → ℕ) → ℕ → Number = λ n x. record { var = x; nth = n x } in
    let own : ℕ → ℕ = λ x. s.numbers x + look_count reads x in
    let looks : c.looks_of-looks.result ≡ map (look s.numbers) reads =
    c.looks_of-looks.ensures
    ∙ map_same (look (slice_index c.args.self.now.numbers)) (look s.numbers) reads c.keeps.ensures.2
    (λ x below. ap (λ (n : ℕ). record { var = x; value = pos 0; nth = n }) (h.numbers x below)) in
    let numbers : c.numbers_of-numbers.result ≡ map (number own) (with_all c.args.writes.now reads) =
    c.numbers_of-numbers.ensures
    ∙ map_same (number (slice_index c.draw_each.new.numbers)) (number own) c.in-Some.all c.keeps-2.ensures.2
    (λ x below. ap (λ (n : ℕ). record { var = x; nth = n }) (c.draw_each.ensures x below
    ∙ ap (λ n. n + look_count reads x) (h.numbers x below)))
    ∙ ap (map (number own)) c.in-Some.ensures.0 in
    λ i. record { looks = looks i; writes = c.writes_of.ensures i; numbers = numbers i }

pub returns-clause-drawn : goal.returns-clause-drawn
returns-clause-drawn c = λ x below.
    let reads = c.args.reads in
    c.draw_each-2.ensures x below
    ∙ ap (λ n. n + look_count c.in-Some.all x) (c.draw_each.ensures x below)
    ∙ ap (λ n. slice_index c.args.self.now.numbers x + look_count reads x + n) (ap (λ (l : List ℕ). look_count l x) c.in-Some.ensures.0
    ∙ own_is_all reads c.args.writes.now x)
