-- What made each entry of a list.
use Rattle.std.specs.Prelude.{◌≡◌, ℕ, List, length, slice_get, Option, Some, None}
use Rattle.gl_model.specs.Entries.{Entry, Sync, Commit, Plain, Abort, Trim, Over}
use Rattle.gl_bytecode.specs.Programs.{Bytecode}
use Rattle.gl_bytecode.specs.Runs.{Progress}
use Rattle.gl_vm.specs.declared.standing.Site.{Site}
use Rattle.gl_vm.specs.Standing.{site_of}
use Rattle.gl_follow.specs.Following.{Stops}
use Rattle.gl_follow.specs.Steps.{GoesQuietly, PassesFirst}
use Rattle.gl_sites.specs.declared.making.Maker.{Maker}
use Rattle.gl_sites.specs.declared.making.Maker.TheVariants.{Instruction, NoInstruction, Note}
use Rattle.gl_sites.specs.declared.making.Went.{Went}
use Rattle.gl_sites.specs.declared.making.Went.TheVariants.{NoFurther, Quietly, By}
use Rattle.gl_sites.specs.Sites.{IsMadeAt, IsMadeByNone, IsNote}

-- this made the entry at n
abbrev pub IsMaker : Bytecode → ℕ → ℕ → List Entry → ℕ → Maker → Type 0
IsMaker P steps t list n (Instruction site) = IsMadeAt P steps t list n site.function site.place
IsMaker P steps t list n NoInstruction = IsMadeByNone P steps t list n
IsMaker P steps t list n Note = IsNote list n

-- these made the first entries of the list, so many as they are
abbrev pub AreFirstMakers : Bytecode → ℕ → ℕ → List Entry → List Maker → Type 0
AreFirstMakers P steps t list makers = (n : ℕ) (m : Maker) → slice_get makers n ≡ Some m → IsMaker P steps t list n m

-- these made the entries of the list, one for each
pub record AreMakers (P : Bytecode) (steps t : ℕ) (list : List Entry) (makers : List Maker) : Type 0 where
  pub all : length makers ≡ length list
  pub each : AreFirstMakers P steps t list makers

-- ## One exchange

-- what made an entry that answers a machine which stands at this instruction, or at none
abbrev pub maker_by : Option Site → Maker
maker_by None = NoInstruction
maker_by (Some site) = Instruction site

abbrev pub maker_of : Option Site → Entry → Maker
maker_of site (Sync at act value) = maker_by site
maker_of site (Commit at tx) = maker_by site
maker_of site (Plain var nth cached write value raised) = maker_by site
maker_of site (Abort tx why) = maker_by site
maker_of site (Trim low) = Note
maker_of site (Over ending) = Note

-- the first entry is passed over or answered, and this made it
pub record PassesBy (P : Bytecode) (p : Progress) (rest : List Entry) (q : Progress) (maker : Maker) : Type 0 where
  pub first : PassesFirst P p rest q
  pub by : maker ≡ maker_of (site_of p.config) first.entry

-- what one exchange came to
abbrev pub HasGone : Bytecode → Progress → List Entry → Progress → Went → Type 0
HasGone P p rest q NoFurther = Stops P p rest × (q ≡ p)
HasGone P p rest q Quietly = GoesQuietly P p rest q
HasGone P p rest q (By maker) = PassesBy P p rest q maker
