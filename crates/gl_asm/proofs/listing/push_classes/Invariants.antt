-- the classes so far
use Rattle.std.proofs.Common.{◌≡◌, ◌++◌, string_bytes, take}
use Rattle.gl_asm.specs.Listing.{each_from, class_line}
use Rattle.gl_asm.proofs.listing.push_classes.Given as goal

abbrev pub invariant-loop-class : goal.invariant-loop-class
invariant-loop-class l = string_bytes l.out ≡ string_bytes l.initial.out ++ each_from class_line 0 (take l.class l.program.classes)
