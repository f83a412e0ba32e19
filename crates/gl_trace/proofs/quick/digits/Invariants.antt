-- the value of the digits so far, which fits its place
use Rattle.std.proofs.Common.{◌≡◌, ◌<◌, ◌≤◌, ◌^◌, true, take}
use Rattle.std.specs.List.{list_all}
use Rattle.std.specs.Char.{is_ascii_digit}
use Rattle.gl_text.specs.Number.{digits_value}
use Rattle.gl_trace.proofs.quick.digits.Given as goal

abbrev pub invariant-loop-i : goal.invariant-loop-i
invariant-loop-i l =
    (l.value ≡ digits_value (take l.i l.text)) × (list_all is_ascii_digit (take l.i l.text) ≡ true)
    × (l.value < 10 ^ l.i) × (l.i ≤ 4)
