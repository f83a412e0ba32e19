-- The lines that the reader has given, which the explainer took.
use Rattle.std.proofs.Common.{◌≡◌, ℕ, List, [], ◌∷◌, ◌++◌, sym, subst, Option, Result, Ok, Err, IfOk}
use Rattle.std.proofs.lemmas.List.{map-append}
use Rattle.gl_trace.specs.Reads.{IsReadTo}
use Rattle.gl_trace.specs.TraceLine.{TraceLine}
use Rattle.gl_trace.specs.declared.reader.TraceReader.{TraceReader}
use Rattle.gl_explain.specs.declared.told.Told.{Told}
use Rattle.gl_explain.specs.declared.told.Explanation.{Explanation}
use Rattle.gl_explain.specs.declared.explainer.Explainer.{Explainer}
use Rattle.gl_explain.specs.Follows.{IsTold, IsToldOn, told_as}
use Rattle.gl_explain.specs.Told.{trace_line_of, trace_of}

pub record AreTaken (text : List ℕ) (reader : TraceReader) (x : Explainer) : Type 0 where
  pub done : List Told
  pub read : IsReadTo text (trace_of done) reader
  pub told : IsTold done x
  pub named : x.writer.names ≡ text

-- a line that is read and told is taken, with the texts that the reader and the writer have
unfoldable pub taken_on : (text : List ℕ) (done : List Told) (line : TraceLine) (reader : TraceReader) (x : Explainer)
    (found : Option Explanation)
    → IsReadTo text (trace_of done ++ line ∷ []) reader → IsToldOn done line x found → x.writer.names ≡ text → AreTaken text reader x
taken_on text done line reader x found read on named =
    let t = told_as line on.0 in
    record {
      done = done ++ t ∷ [];
      read = subst (λ ls. IsReadTo text ls reader) (sym (map-append trace_line_of done (t ∷ []))) read;
      told = on.1;
      named = named;
    }

-- what follows from a fact about what a right result gives is true of it
pub more_if_ok : {T E : Type 0} (P Q : T → Type 0) (r : Result T E) → ((x : T) → P x → Q x) → IfOk r P → IfOk r Q
more_if_ok P Q (Ok x) f p = f x p
more_if_ok P Q (Err e) f p = tt
