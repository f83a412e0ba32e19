-- What is gathered of a record thread by thread from 0 up, and of a list entry by entry.
use Rattle.std.proofs.Common.{◌≡◌, ℕ, ◌+◌, ◌<◌, List, [], ◌∷◌, ◌++◌, length, map, get_or, take, Option, Some, None, refl, ap, sym, ◌∙◌, arith, append_assoc}
use Rattle.std.specs.Prelude.{slice_get, unwrap_or}
use Rattle.std.proofs.lemmas.List.{append-nil, length-take, take_more}
use Rattle.std.proofs.lemmas.Option.{get_or_from_slice_get, slice_get-get_or, slice_get-map, slice_get_within}
use Rattle.gl_model.specs.Entries.{Entry, seen}
use Rattle.gl_model.specs.declared.record.Entry.{Entry as StoredEntry}
use Rattle.std.specs.Option.{option_map}
use Rattle.gl_model.specs.Lists.{list_of, lists_of}
use Rattle.gl_model.specs.Rising.{Rises}
use Rattle.gl_model.proofs.ThreadLists.{below, one_of, gathers_next as lists_next}
use Rattle.gl_places.specs.Uses.{Use, uses_from, uses_of}
use Rattle.gl_places.proofs.UsesMade.{use_at}

-- the uses of one entry more come last
pub uses_more :
    (f : Entry → List ℕ) (t i : ℕ) (es : List Entry) (e : Entry) →
    uses_from f t i (es ++ e ∷ []) ≡ uses_from f t i es ++ map (λ k. use_at t (i + length es) k) (f e)
uses_more f t i [] e = (let place : i + 0 ≡ i = omega arith in rw place (append-nil (map (λ k. use_at t i k) (f e))))
uses_more f t i (x ∷ es) e =
    let place : (i + 1) + length es ≡ i + length (x ∷ es) = omega arith in
    let more : uses_from f t (i + 1) (es ++ e ∷ []) ≡ uses_from f t (i + 1) es ++ map (λ k. use_at t (i + length (x ∷ es)) k) (f e) =
    uses_more f t (i + 1) es e ∙ ap (λ n. uses_from f t (i + 1) es ++ map (λ k. use_at t n k) (f e)) place in
    ap (λ rest. map (λ k. use_at t i k) (f x) ++ rest) more
    ∙ sym (append_assoc (map (λ k. use_at t i k) (f x)) (uses_from f t (i + 1) es) (map (λ k. use_at t (i + length (x ∷ es)) k) (f e)))

-- what is gathered of two lists of lists is what is gathered of the one, and then of the other
uses_of_both : (f : Entry → List ℕ) (ls ms : List (ℕ × List Entry)) → uses_of f (ls ++ ms) ≡ uses_of f ls ++ uses_of f ms
uses_of_both f [] ms = refl
uses_of_both f (l ∷ ls) ms =
    ap (λ rest. uses_from f l.0 0 l.1 ++ rest) (uses_of_both f ls ms)
    ∙ sym (append_assoc (uses_from f l.0 0 l.1) (uses_of f ls) (uses_of f ms))

-- what is gathered of a thread's list, if it has one, is what its entries have
of_one : (f : Entry → List ℕ) (t : ℕ) (list : Option (List Entry)) → uses_of f (one_of t list) ≡ uses_from f t 0 (unwrap_or list [])
of_one f t None = refl
of_one f t (Some es) = append-nil (uses_from f t 0 es)

-- what is gathered of the next thread's list comes last
pub gathers_next : (f : Entry → List ℕ) (t : ℕ) (ls : List (ℕ × List Entry)) → Rises (map (λ l. l.0) ls)
    → uses_of f (below (t + 1) ls) ≡ uses_of f (below t ls) ++ uses_from f t 0 (lists_of ls t)
gathers_next f t ls rises =
    ap (uses_of f) (lists_next t ls rises) ∙ uses_of_both f (below t ls) (one_of t (list_of ls t))
    ∙ ap (λ rest. uses_of f (below t ls) ++ rest) (of_one f t (list_of ls t))

-- the uses of one entry more of a list come behind those of the entries before it
pub list_more :
    (f : Entry → List ℕ) (t i : ℕ) (es : List Entry) (e : Entry) → slice_get es i ≡ Some e →
    uses_from f t 0 (take (i + 1) es) ≡ uses_from f t 0 (take i es) ++ map (λ k. use_at t i k) (f e)
list_more f t i es e at =
    let within = slice_get_within es i e at in
    let long : 0 + length (take i es) ≡ i = (let is = length-take i es in omega arith) in
    let grown : take (i + 1) es ≡ take i es ++ e ∷ [] = take_more es i e within
    ∙ ap (λ x. take i es ++ x ∷ []) (get_or_from_slice_get es i e e at) in
    ap (uses_from f t 0) grown ∙ uses_more f t 0 (take i es) e ∙ ap (λ n. uses_from f t 0 (take i es) ++ map (λ k. use_at t n k) (f e)) long

-- where what was gathered ends with the uses of the first i entries, putting those of entry i behind it makes it end with those of the
-- first i + 1
pub entry_more :
    (f : Entry → List ℕ) (t i : ℕ) (es : List Entry) (e : Entry) (start before after : List Use) → slice_get es i ≡ Some e →
    after ≡ before ++ map (λ k. use_at t i k) (f e) → before ≡ start ++ uses_from f t 0 (take i es) →
    after ≡ start ++ uses_from f t 0 (take (i + 1) es)
entry_more f t i es e start before after at is was =
    is ∙ ap (λ us. us ++ map (λ k. use_at t i k) (f e)) was
    ∙ append_assoc start (uses_from f t 0 (take i es)) (map (λ k. use_at t i k) (f e))
    ∙ ap (λ us. start ++ us) (sym (list_more f t i es e at))

-- an entry of a stored list stands at its index among those that are seen
pub entry_at :
    (list : List StoredEntry) (i : ℕ) (e : StoredEntry) → e ≡ get_or list i e → i < length list → slice_get (map seen list) i
    ≡ Some (seen e)
entry_at list i e is less =
    slice_get-map seen list i ∙ ap (option_map seen) (slice_get-get_or list i e less) ∙ ap (λ x. Some (seen x)) (sym is)
