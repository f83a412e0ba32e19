use Rattle.std.proofs.Common.{arith, ◌≡◌, ℕ, suc, ◌+◌, ◌*◌, ◌<◌, ◌≤◌, refl, slice_get}
use Rattle.gl_model.specs.declared.limits.TheConstants.{CLASSES, MONITORS, VARIABLES}
use Rattle.gl_bytecode.specs.declared.object.TheConstants.{CLASS_UNIT, VARIABLE_UNIT, VOLATILE_UNIT}
use Rattle.gl_bytecode.specs.Programs.{Bytecode}
use Rattle.gl_bytecode.specs.References.{class_number, first_variable, first_volatile, object_in, object_number, object_of}
use Rattle.gl_bytecode.proofs.laws.references_are_read_back.Goals as goal

-- the numbers side by side
abbrev laid : ℕ → ℕ → ℕ → ℕ → ℕ
laid o c d v = o + CLASS_UNIT * c + VARIABLE_UNIT * d + VOLATILE_UNIT * v

number_back : (o c d v : ℕ) → o < MONITORS → object_number (laid o c d v) ≡ o
number_back o c d v less = omega arith

class_back : (o c d v : ℕ) → o < MONITORS → c < CLASSES → class_number (laid o c d v) ≡ c
class_back o c d v less below = omega arith

variable_back : (o c d v : ℕ) → o < MONITORS → c < CLASSES → d ≤ VARIABLES → first_variable (laid o c d v) ≡ d
variable_back o c d v less below within = omega arith

volatile_back : (o c d v : ℕ) → o < MONITORS → c < CLASSES → d ≤ VARIABLES → first_volatile (laid o c d v) ≡ v
volatile_back o c d v less below within = omega arith

read_back : (P : Bytecode) (o c d v : ℕ) → o < MONITORS → c < CLASSES → d ≤ VARIABLES → object_in P (laid o c d v)
    ≡ object_of o d v (slice_get P.classes c)
read_back P o c d v less below within =
    rw (
      number_back o c d v less,
      class_back o c d v less below,
      variable_back o c d v less below within,
      volatile_back o c d v less below
          within,
    ) refl

one_more : (o c d v : ℕ) → 1 + o + CLASS_UNIT * c + VARIABLE_UNIT * d + VOLATILE_UNIT * v ≡ suc (laid o c d v)
one_more o c d v = omega arith

pub returns : goal.returns
returns c = λ P o cl d v less below within. rw (one_more o cl d v) (read_back P o cl d v less below within)
