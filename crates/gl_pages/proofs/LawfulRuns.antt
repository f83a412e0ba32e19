-- What holds of a lawful record.
use Rattle.std.proofs.Common.{ℕ, ℤ, List}
use Rattle.gl_model.specs.Form.{Listed}
use Rattle.gl_model.specs.Records.{Lists}
use Rattle.gl_bytecode.specs.Lawful.{Lawful, setting_of}
use Rattle.gl_bytecode.specs.Programs.{Bytecode}
use Rattle.gl_bytecode.specs.Validity.{IsValid}
use Rattle.gl_audit.proofs.Begins.{begins_are_right}
use Rattle.gl_follow.specs.Beginnings.{BeginsAreRight}
use Rattle.gl_raised.specs.RaceFaults.{AreSteps}

module _ (P : Bytecode) (inputs : List ℤ) (steps : ℕ) (R : Lists) (lawful : Lawful P inputs steps R) where
  -- in a lawful record of a valid program each thread begins rightly
  pub begins_right_in : IsValid P → BeginsAreRight P R
  begins_right_in valid =
      begins_are_right P inputs R valid (lawful.allowed.events, lawful.allowed.listed, lawful.allowed.machine)

  -- the events of a lawful record are listed
  pub listed_in : Listed R
  listed_in = (lawful.allowed.events, lawful.allowed.listed)

  -- the events of a lawful record are a run of the machine
  pub steps_in : AreSteps R
  steps_in = (setting_of P inputs, (lawful.allowed.events, lawful.allowed.listed, lawful.allowed.machine))
