-- Threads that have done nothing, dealt to workers; and threads that are done, gathered.
use Rattle.std.proofs.Common.{◌≡◌, ◌≢◌, ℕ, zero, suc, ◌+◌, ◌<◌, ◌^◌, ◌%◌, ◌==◌, Bool, true, false, List, [], ◌∷◌, ◌++◌, length, map, refl, sym, ◌∙◌, ap, subst, arith, Some, None, eq-eqb}
use Rattle.std.specs.Prelude.{if◌then◌else◌, slice_index_or, slice_set}
use Rattle.std.proofs.lemmas.List.{append-nil, get_or-set_same, get_or-set_other, length-set, length-append, get_or_append_left, get_or_at}
use Rattle.std.proofs.lemmas.List.Elements.{All-push, All-pop}
use Rattle.std.proofs.lemmas.Bool.Decides.{nat_tests}
use native.Mathlib.Decide.{ℕ_discrete}
use Rattle.gl_bytecode.specs.Fits.{Fits}
use Rattle.gl_bytecode.specs.Machine.{Config, fresh}
use Rattle.gl_bytecode.specs.Programs.{Bytecode}
use Rattle.gl_bytecode.proofs.Growth.{along_new}
use Rattle.gl_vm.proofs.Work.{orderly_fresh}
use Rattle.gl_table.specs.PassView.{Own, PassView}
use Rattle.gl_threads.specs.Aboard.{AreAboard, AreFinished, IsAboard, IsFinished, rider_id}
use Rattle.gl_table.specs.Beginning.{fresh as new_pass, fresh_from}
use Rattle.gl_table.specs.TableView.{TableView}
use Rattle.gl_rule.specs.Objects.{capacity}
use Rattle.gl_rule.specs.Levels.{levels_of}
use Rattle.gl_threads.specs.Crews.{IsReady}
use Rattle.gl_threads.specs.Dealing.{AreBack, AreDealt, AreDone, AreNew, AreReady, IsEmptyCrew, dealt, its, new_own}
use Rattle.std.specs.List.{All}
use Rattle.atomic_table.specs.Seated.{TableId}
use Rattle.gl_cache.specs.Words.{Words, no_words}
use Rattle.gl_riders.specs.Owing.{Owns}
use Rattle.gl_riders.proofs.Owings.{owns_none}
use Rattle.gl_riders.proofs.Sparings.{spares_new}
use Rattle.gl_riders.specs.Riding.{Rides}
use Rattle.gl_threads.specs.declared.crew.Crew.{Crew}
use Rattle.gl_threads.specs.declared.rider.Rider.{Rider}

-- a fresh thread with fresh own things rides, outside an attempt
pub rides_new : (P : Bytecode) (z : TableId) (id steps : ℕ) (c : Config) (own : Own) → Fits P c → c ≡ fresh P id steps → own ≡ new_own z id
    → steps < 2 ^ 32 → Rides P z c own None
unfolding levels_of
rides_new P z id steps c own fits is new short =
    let fits' : Fits P (fresh P id steps) = rw is at fits in
    let at : Config × Own → Type 0 = λ t. Rides P z t.0 t.1 None in
    subst at (λ i. (sym is i, sym new i)) (record {
      along = along_new P steps id;
      short = short;
      fits = fits';
      orderly = orderly_fresh P id steps;
      in_range = tt;
      running = refl;
      life = refl;
      levels = refl;
      table = refl;
      held = refl;
      spares = spares_new;
      drawn = refl;
    })

-- fresh own things have no private words
pub kept_new : (z : TableId) (id : ℕ) (own : Own) (words : Words) → own ≡ new_own z id → words ≡ no_words → Owns words own
kept_new z id own words new none =
    let at : Own × Words → Type 0 = λ t. Owns t.1 t.0 in
    subst at (λ i. (sym new i, sym none i)) (owns_none (new_own z id) (λ x. refl) refl)

-- ## A thread more

-- a number whose rest by the number of workers is not this worker's is not dealt to it
other_worker : (W c n : ℕ) → n % W ≢ c → its W c n ≡ []
other_worker W c n other = by_test (n % W == c) refl where
  by_test : (b : Bool) → (n % W == c) ≡ b → (if b then n ∷ [] else []) ≡ []
  by_test true is = absurd (other (grind (arith, nat_tests)))
  by_test false is = refl

-- a number whose rest by the number of workers is this worker's is dealt to it
this_worker : (W c n : ℕ) → n % W ≡ c → its W c n ≡ n ∷ []
this_worker W c n this = (let e : (n % W == c) ≡ true = eq-eqb (n % W) c this in rw e refl)

-- worker c has another crew, which is this one
module _ (crews : List Crew) (c : ℕ) (crew : Crew) (less : c < length crews) where
  -- worker c has the crew that was set
  here : (d : Crew) → slice_index_or (slice_set crews c crew) c d ≡ crew
  here d = get_or-set_same crews c crew d less

  -- each other worker has the crew that it had
  elsewhere : (j : ℕ) (d : Crew) → j ≢ c → slice_index_or (slice_set crews c crew) j d ≡ slice_index_or crews j d
  elsewhere j d other = get_or-set_other crews c j crew d other

-- the image of two lists together is the images together
map-append : {A B : Type 0} (f : A → B) (xs ys : List A) → map f (xs ++ ys) ≡ map f xs ++ map f ys
map-append f [] ys = refl
map-append f (x ∷ xs) ys = ap (λ zs. f x ∷ zs) (map-append f xs ys)

-- the threads from the next number on, with one more given to its worker, are dealt from this number on
pub dealt_more :
    (W n k : ℕ) (crews : List Crew) (crew : Crew) (rider : Rider) → AreDealt W (suc n) k crews → n % W < W → rider_id rider ≡ n →
    crew.riders.items ≡ (slice_index_or crews (n % W) crew).riders.items ++ rider ∷ [] → AreDealt W n (suc k) (slice_set crews (n % W) crew)
dealt_more W n k crews crew rider dealt' less id gets = record {
  long = length-set crews (n % W) crew ∙ dealt'.long;
  ids = λ c d low. elim (ℕ_discrete c (n % W)) [
    | yes same ↦
        (let in' : n % W < length crews = (let l = dealt'.long in omega arith) in
        let old = dealt'.ids (n % W) crew less in
        let items : map rider_id crew.riders.items ≡ dealt W (n % W) (suc n) k ++ n ∷ [] =
        ap (map rider_id) gets ∙ map-append rider_id (slice_index_or crews (n % W) crew).riders.items (rider ∷ [])
        ∙ (λ i. old i ++ id i ∷ []) in
        let there : slice_index_or (slice_set crews (n % W) crew) c d
        ≡ crew = ap (λ j. slice_index_or (slice_set crews (n % W) crew) j d) same ∙ here crews (n % W) crew in' d in
        ap (λ (q : Crew). map rider_id q.riders.items) there ∙ items
        ∙ (λ i. dealt W (sym same i) (suc n) k ++ sym (this_worker W c n (sym same)) i))
    | no other ↦
        (ap (λ (q : Crew). map rider_id q.riders.items) (elsewhere crews (n % W) crew (let l = dealt'.long in omega arith) c d other)
        ∙ dealt'.ids c d low ∙ sym (append-nil (dealt W c (suc n) k))
        ∙ ap (λ ns. dealt W c (suc n) k ++ ns) (sym (other_worker W c n (λ same. other (sym same)))))
  ];
}

-- crews that are ready stay so when one takes a rider aboard who is aboard rightly
pub ready_more :
    (P : Bytecode) (steps : ℕ) (t : TableView) (crews : List Crew) (c : ℕ) (crew : Crew) (rider : Rider) → AreReady P steps t crews
    → c < length crews → IsAboard P steps t.id rider →
    crew.riders.items ≡ (slice_index_or crews c crew).riders.items ++ rider ∷ [] → crew.lent.window ≡ (slice_index_or crews c crew).lent.window
    → AreReady P steps t (slice_set crews c crew)
ready_more P steps t crews c crew rider ready less aboard gets window = λ j d low. elim (ℕ_discrete j c) [
  | yes same ↦
      (let old = ready c crew less in
      let now : IsReady P steps t crew = record {
        aboard = rw gets (All-push (IsAboard P steps t.id) (slice_index_or crews c crew).riders.items rider old.aboard aboard);
        room = rw window old.room;
      } in
      let there : slice_index_or (slice_set crews c crew) j d ≡ crew = ap (λ i. slice_index_or (slice_set crews c crew) i d) same
      ∙ here crews c crew less d in
      let at : Crew → Type 0 = λ q. IsReady P steps t q in subst at (sym there) now)
  | no other ↦
      (let at : Crew → Type 0 = λ q. IsReady P steps t q in
      subst at (sym (elsewhere crews c crew less j d other)) (ready j d (let l = length-set crews c crew in omega arith)))
]

-- ## A thread less

-- two equal lists with one put last have equal fronts and equal last elements
snoc_same : (xs ys : List ℕ) (x y : ℕ) → xs ++ x ∷ [] ≡ ys ++ y ∷ [] → (xs ≡ ys) × (x ≡ y)
snoc_same [] [] x y is = (refl, cc)
snoc_same [] (b ∷ ys) x y is = absurd (short ys (tails is)) where
  tails : x ∷ [] ≡ b ∷ (ys ++ y ∷ []) → [] ≡ ys ++ y ∷ []
  tails e = cc

  short : (zs : List ℕ) → [] ≡ zs ++ y ∷ [] → ⊥
  short [] e = cc
  short (z ∷ zs) e = cc
snoc_same (a ∷ xs) [] x y is = absurd (short xs (tails is)) where
  tails : a ∷ (xs ++ x ∷ []) ≡ y ∷ [] → xs ++ x ∷ [] ≡ []
  tails e = cc

  short : (zs : List ℕ) → zs ++ x ∷ [] ≡ [] → ⊥
  short [] e = cc
  short (z ∷ zs) e = cc
snoc_same (a ∷ xs) (b ∷ ys) x y is =
    let heads : a ≡ b = cc in
    let tails : xs ++ x ∷ [] ≡ ys ++ y ∷ [] = cc in
    let more = snoc_same xs ys x y tails in
    ((λ i. heads i ∷ more.0 i), more.1)

-- the last of the list is n, and this is what is left
pub record IsLast (n : ℕ) (rest : List ℕ) (left : List Rider) (rider : Rider) : Type 0 where
  pub id : rider_id rider ≡ n
  pub left_ids : map rider_id left ≡ rest

-- riders whose ids end in n have the rider of that id last
is_last : (n : ℕ) (rest : List ℕ) (left : List Rider) (r : Rider) → map rider_id (left ++ r ∷ []) ≡ rest ++ n ∷ [] → IsLast n rest left r
is_last n rest left r is =
    let e = snoc_same (map rider_id left) rest (rider_id r) n (sym (map-append rider_id left (r ∷ [])) ∙ is) in
    record { id = e.1; left_ids = e.0 }

-- what worker n mod W gives away
pub record IsGone (W n k : ℕ) (crews : List Crew) (crew : Crew) (rider : Rider) : Type 0 where
  pub id : rider_id rider ≡ n
  pub dealt : AreDealt W (suc n) k (slice_set crews (n % W) crew)

-- a crew's last rider is the one of the next number, and without it the others are dealt from the number after
pub dealt_less :
    (W n k : ℕ) (crews : List Crew) (crew : Crew) (rider : Rider) → AreDealt W n (suc k) crews → n % W < W →
    (slice_index_or crews (n % W) crew).riders.items ≡ crew.riders.items ++ rider ∷ [] → IsGone W n k crews crew rider
dealt_less W n k crews crew rider dealt' less gives =
    let in' : n % W < length crews = (let l = dealt'.long in omega arith) in
    let old : map rider_id (crew.riders.items ++ rider ∷ []) ≡ dealt W (n % W) (suc n) k ++ n ∷ [] =
    ap (map rider_id) (sym gives) ∙ dealt'.ids (n % W) crew less
    ∙ ap (λ ns. dealt W (n % W) (suc n) k ++ ns) (this_worker W (n % W) n refl) in
    let last : IsLast n (dealt W (n % W) (suc n) k) crew.riders.items rider =
    is_last n (dealt W (n % W) (suc n) k) crew.riders.items rider old in
    record {
      id = last.id;
      dealt = record {
        long = length-set crews (n % W) crew ∙ dealt'.long;
        ids = λ c d low. elim (ℕ_discrete c (n % W)) [
          | yes same ↦
              (let there : slice_index_or (slice_set crews (n % W) crew) c d
              ≡ crew = ap (λ j. slice_index_or (slice_set crews (n % W) crew) j d) same ∙ here crews (n % W) crew in' d in
              ap (λ (q : Crew). map rider_id q.riders.items) there ∙ last.left_ids ∙ ap (λ j. dealt W j (suc n) k) (sym same))
          | no other ↦
              (ap (λ (q : Crew). map rider_id q.riders.items) (elsewhere crews (n % W) crew in' c d other) ∙ dealt'.ids c d low
              ∙ ap (λ ns. dealt W c (suc n) k ++ ns) (other_worker W c n (λ same. other (sym same))) ∙ append-nil (dealt W c (suc n) k))
        ];
      };
    }

-- there is one to give away
pub dealt_some : (W n k : ℕ) (crews : List Crew) → AreDealt W n (suc k) crews → n % W < W
    → ((d : Crew) → (slice_index_or crews (n % W) d).riders.items ≡ []) → (d : Crew) → ⊥
dealt_some W n k crews dealt' less none d =
    let e : [] ≡ dealt W (n % W) (suc n) k ++ n ∷ [] = ap (map rider_id) (sym (none d)) ∙ dealt'.ids (n % W) d less
    ∙ ap (λ ns. dealt W (n % W) (suc n) k ++ ns) (this_worker W (n % W) n refl) in
    short (dealt W (n % W) (suc n) k) n e
  where
    short : (zs : List ℕ) (y : ℕ) → [] ≡ zs ++ y ∷ [] → ⊥
    short [] y e = cc
    short (z ∷ zs) y e = cc

-- the last rider of a crew that is done is finished, and the crews without it are done still
pub done_less :
    (P : Bytecode) (steps : ℕ) (z : TableId) (crews : List Crew) (c : ℕ) (crew : Crew) (rider : Rider) → AreDone P steps z crews
    → c < length crews →
    (slice_index_or crews c crew).riders.items ≡ crew.riders.items ++ rider ∷ [] → AreDone P steps z (slice_set crews c crew)
    × IsFinished P steps z rider.thread.pass
done_less P steps z crews c crew rider done less gives =
    let F : Rider → Type 0 = λ r. IsFinished P steps z r.thread.pass in
    let both : AreFinished P steps z (crew.riders.items ++ rider ∷ []) = rw gives at (done c crew less) in
    let parts = All-pop F (crew.riders.items ++ rider ∷ []) crew.riders.items (Some rider) refl both in (
      λ j d low. elim (ℕ_discrete j c) [
        | yes same ↦
            (let there : slice_index_or (slice_set crews c crew) j d ≡ crew = ap (λ i. slice_index_or (slice_set crews c crew) i d) same
            ∙ here crews c crew less d in
            let at : Crew → Type 0 = λ q. AreFinished P steps z q.riders.items in subst at (sym there) parts.0)
        | no other ↦
            (let at : Crew → Type 0 = λ q. AreFinished P steps z q.riders.items in
            subst at (sym (elsewhere crews c crew less j d other)) (done j d (let l = length-set crews c crew in omega arith)))
      ],
      parts.1,
    )

-- ## Passes

-- passes that are back are back with one more finished pass of the next number
pub back_more :
    (P : Bytecode) (steps : ℕ) (z : TableId) (n : ℕ) (ps : List PassView) (v : PassView) → AreBack P steps z ps → length ps ≡ n → v.own.id
    ≡ n → IsFinished P steps z v →
    AreBack P steps z (ps ++ v ∷ [])
back_more P steps z n ps v back long id finished = record {
  ids = λ j d less. by_place (λ (u : PassView). u.own.id ≡ j) j d less (λ low. back.ids j d low) (λ same. id ∙ sym same);
  finished = λ j d less. by_place (λ u. IsFinished P steps z u) j d less (λ low. back.finished j d low) (λ same. finished);
} where
  by_place :
      (Q : PassView → Type 0) (j : ℕ) (d : PassView) → j < length (ps ++ v ∷ []) → (j < length ps → Q (slice_index_or ps j d))
      → (j ≡ n → Q v) →
      Q (slice_index_or (ps ++ v ∷ []) j d)
  by_place Q j d less low last = elim (ℕ_discrete j n) [
    | yes same ↦ subst Q (sym (get_or_at ps v [] d j (long ∙ sym same))) (last same)
    | no other ↦
        (let l = length-append ps (v ∷ []) in
        let in' : j < length ps = omega (arith, other) in subst Q (sym (get_or_append_left ps (v ∷ []) d j in')) (low in'))
  ]

-- the last of new passes
pub record IsNewLast (z : TableId) (n : ℕ) (left : List PassView) (v : PassView) : Type 0 where
  pub new : v.own ≡ new_own z n
  pub rest : AreNew z left

-- fresh passes have the fresh pass of the last number last
pub new_less : (z : TableId) (n : ℕ) (ps left : List PassView) (v : PassView) → AreNew z ps → ps ≡ left ++ v ∷ [] → length left ≡ n
    → IsNewLast z n left v
new_less z n ps left v new is long =
    let new' : AreNew z (left ++ v ∷ []) = rw is at new in
    let l = length-append left (v ∷ []) in
    record {
      new = ap (λ (u : PassView). u.own) (sym (get_or_at left v [] v n long)) ∙ new' n v (omega arith);
      rest = λ j d less. ap (λ (u : PassView). u.own) (sym (get_or_append_left left (v ∷ []) d j less)) ∙ new' j d (omega arith);
    }

-- a number above zero is one more than some number
pub suc_of : (k : ℕ) → 0 < k → (m : ℕ) × (k ≡ suc m)
suc_of zero less = absurd (omega arith)
suc_of (suc m) less = (m, refl)

-- a list with one more and one less
pub has_last : (n : ℕ) (left : List PassView) (v : PassView) (ps : List PassView) → ps ≡ left ++ v ∷ [] → length ps ≡ suc (length left)
has_last n left v ps is = (let l = length-append left (v ∷ []) in let e = ap length is in omega arith)

module _ (P : Bytecode) (steps : ℕ) (z : TableId) (W : ℕ) where
  -- what holds while the threads from n on are still to be gathered
  pub record Gathers (n : ℕ) (crews : List Crew) (ps : List PassView) : Type 0 where
    pub k : ℕ
    pub sum : n + k ≡ 16
    pub dealt : AreDealt W n k crews
    pub done : AreDone P steps z crews
    pub long : length ps ≡ n
    pub back : AreBack P steps z ps

  -- where fewer than 16 threads were gathered, the worker that has the next one has some rider
  pub gathers_some : (n : ℕ) (crews : List Crew) (ps : List PassView) → Gathers n crews ps → n < 16 → n % W < W
      → ((d : Crew) → (slice_index_or crews (n % W) d).riders.items ≡ []) → (d : Crew) → ⊥
  gathers_some n crews ps g less low none d =
      let sum = g.sum in
      let m = suc_of g.k (omega arith) in
      let dealt' : AreDealt W n (suc m.0) crews = rw m.1 at g.dealt in
      dealt_some W n m.0 crews dealt' low none d

  pub gathers_more :
      (n : ℕ) (crews : List Crew) (ps : List PassView) (crew : Crew) (rider : Rider) → Gathers n crews ps → n < 16 → n % W < W →
      (slice_index_or crews (n % W) crew).riders.items ≡ crew.riders.items ++ rider ∷ []
      → Gathers (n + 1) (slice_set crews (n % W) crew) (ps ++ rider.thread.pass ∷ [])
  gathers_more n crews ps crew rider g less low gives =
      let sum = g.sum in
      let m = suc_of g.k (omega arith) in
      let is = m.1 in
      let dealt' : AreDealt W n (suc m.0) crews = rw m.1 at g.dealt in
      let gone = dealt_less W n m.0 crews crew rider dealt' low gives in
      let in' : n % W < length crews = (let l = g.dealt.long in omega arith) in
      let rest = done_less P steps z crews (n % W) crew rider g.done in' gives in
      let next : suc n ≡ n + 1 = omega arith in
      record {
        k = m.0;
        sum = omega arith;
        dealt = (let at : ℕ → Type 0 = λ j. AreDealt W j m.0 (slice_set crews (n % W) crew) in subst at next gone.dealt);
        done = rest.0;
        long = length-append ps (rider.thread.pass ∷ []) ∙ (let l = g.long in omega arith);
        back = back_more P steps z n ps rider.thread.pass g.back g.long gone.id rest.1;
      }

-- ## Dealing

module _ (P : Bytecode) (steps : ℕ) (t : TableView) (W : ℕ) where
  -- what holds while the first n passes are still to be dealt
  pub record Deals (left : List PassView) (crews : List Crew) : Type 0 where
    pub k : ℕ
    pub sum : length left + k ≡ 16
    pub new : AreNew t.id left
    pub dealt : AreDealt W (length left) k crews
    pub ready : AreReady P steps t crews

  pub deals_more :
      (ps left : List PassView) (v : PassView) (crews : List Crew) (crew : Crew) (rider : Rider) → Deals ps crews → ps ≡ left ++ v ∷ []
      → length left % W < W →
      (v.own ≡ new_own v.own.table v.own.id → IsAboard P steps v.own.table rider × (rider_id rider ≡ v.own.id)) →
      crew.riders.items ≡ (slice_index_or crews (length left % W) crew).riders.items ++ rider ∷ [] →
      crew.lent.window ≡ (slice_index_or crews (length left % W) crew).lent.window → Deals left (slice_set crews (length left % W) crew)
  deals_more ps left v crews crew rider g is low boards gets window =
      let sum = g.sum in
      let long : length ps ≡ suc (length left) = has_last 0 left v ps is in
      let last = new_less t.id (length left) ps left v g.new is refl in
      let own : v.own ≡ new_own v.own.table v.own.id = last.new
      ∙ (λ i. new_own (ap (λ (o : Own). o.table) (sym last.new) i) (ap (λ (o : Own). o.id) (sym last.new) i)) in
      let b = boards own in
      let id : rider_id rider ≡ length left = b.1 ∙ ap (λ (o : Own). o.id) last.new in
      let aboard : IsAboard P steps t.id rider =
      (let at : TableId → Type 0 = λ z. IsAboard P steps z rider in subst at (ap (λ (o : Own). o.table) last.new) b.0) in
      let dealt' : AreDealt W (suc (length left)) g.k crews = rw long at g.dealt in
      let in' : length left % W < length crews = (let l = dealt'.long in omega arith) in
      record {
        k = suc g.k;
        sum = omega arith;
        new = last.rest;
        dealt = dealt_more W (length left) g.k crews crew rider dealt' low id gets;
        ready = ready_more P steps t crews (length left % W) crew rider g.ready in' aboard gets window;
      }

  -- once no thread is left, all 16 are dealt
  pub deals_none : (left : List PassView) (crews : List Crew) → Deals left crews → length left ≡ 0 → AreDealt W 0 16 crews
  deals_none left crews g none =
      let sum = g.sum in
      let k : g.k ≡ 16 = omega arith in
      let at : ℕ × ℕ → Type 0 = λ t. AreDealt W t.0 t.1 crews in
      subst at (λ i. (none i, k i)) g.dealt

pub record AreEmpty (W n : ℕ) (P : Bytecode) (steps : ℕ) (t : TableView) (crews : List Crew) : Type 0 where
  pub dealt : AreDealt W n 0 crews
  pub ready : AreReady P steps t crews

-- crews that are all empty have no threads aboard
pub crews_new :
    (W n : ℕ) (P : Bytecode) (steps : ℕ) (t : TableView) (room : ℕ) (crews : List Crew) → length crews ≡ W → capacity t.key ≡ room
    → All (IsEmptyCrew room) crews →
    AreEmpty W n P steps t crews
crews_new W n P steps t room crews long is none = record {
  dealt = record { long = long; ids = λ c d less. ap (map rider_id) (none c d (omega (arith, long))).none };
  ready = λ c d less.
      (let e = none c d less in
      let at : List Rider → Type 0 = λ rs. AreAboard P steps t.id rs in
      record { aboard = subst at (sym e.none) (λ k r low. absurd (omega arith)); room = rw is e.has_room });
}

-- ## The passes of a new table

-- the j-th of the fresh passes from n on is that of number n + j
fresh_at : (z : TableId) (n k j : ℕ) (d : PassView) → j < k → slice_index_or (fresh_from z n k) j d ≡ new_pass z (n + j)
fresh_at z n zero j d less = absurd (omega arith)
fresh_at z n (suc k) zero d less = (let same : n ≡ n + 0 = omega arith in ap (new_pass z) same)
fresh_at z n (suc k) (suc j) d less = (let same : suc n + j ≡ n + suc j = omega arith in fresh_at z (suc n) k j d (omega arith)
    ∙ ap (new_pass z) same)

-- the fresh passes from n on are as many as asked for
pub fresh_long : (z : TableId) (n k : ℕ) → length (fresh_from z n k) ≡ k
fresh_long z n zero = refl
fresh_long z n (suc k) = ap suc (fresh_long z (suc n) k)

-- the sixteen fresh passes are those of a table that is new
pub fresh_new : (z : TableId) (ps : List PassView) → ps ≡ fresh_from z 0 16 → AreNew z ps
fresh_new z ps is j d less =
    let long : length ps ≡ 16 = ap length is ∙ fresh_long z 0 16 in
    let low : j < 16 = omega arith in
    let same : 0 + j ≡ j = omega arith in
    ap (λ (qs : List PassView). (slice_index_or qs j d).own) is ∙ ap (λ (p : PassView). p.own) (fresh_at z 0 16 j d low)
    ∙ ap (new_own z) same
