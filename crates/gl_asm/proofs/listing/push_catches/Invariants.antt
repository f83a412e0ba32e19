-- the lines of the catches so far
use Rattle.std.proofs.Common.{◌≡◌, ◌++◌, string_bytes, take}
use Rattle.std.specs.List.{flat_map}
use Rattle.gl_asm.specs.Listing.{catch_line}
use Rattle.gl_asm.proofs.listing.push_catches.Given as goal

abbrev pub invariant-loop-catch : goal.invariant-loop-catch
invariant-loop-catch l = string_bytes l.out ≡ string_bytes l.initial.out ++ flat_map catch_line (take l.catch-index l.catches)
