-- What a program is, as all definitions see it.
use Rattle.std.specs.Prelude.{ℕ, List, [], ◌∷◌, ◌++◌, Option, Some, slice_get}
use Rattle.std.specs.Option.{option_and_then}
use Rattle.gl_bytecode.specs.declared.instr.Catch.{Catch}
use Rattle.gl_bytecode.specs.declared.instr.Instr.{Instr}
use Rattle.gl_bytecode.specs.declared.object.Fields.{Fields}

pub record Function : Type 0 where
  pub args : ℕ
  pub locals : ℕ
  pub code : List Instr
  pub catches : List Catch

pub record Bytecode : Type 0 where
  pub classes : List Fields
  pub functions : List Function
  pub main : ℕ

abbrev pub function_at : Bytecode → ℕ → Option Function
function_at P f = slice_get P.functions f

-- the instruction of function f at this place
abbrev pub instr_at : Bytecode → ℕ → ℕ → Option Instr
instr_at P f at = option_and_then (λ F. slice_get F.code at) (function_at P f)

-- a program in the making: its main is not named at first
pub record Draft : Type 0 where
  pub classes : List Fields
  pub functions : List Function
  pub main : Option ℕ

-- the draft that a program is made from
abbrev pub draft_of : Bytecode → Draft
draft_of P = record { classes = P.classes; functions = P.functions; main = Some P.main }

-- a list with its last element changed
abbrev pub with_last : (Function → Function) → List Function → List Function
with_last change [] = []
with_last change (F ∷ []) = change F ∷ []
with_last change (F ∷ G ∷ Fs) = F ∷ with_last change (G ∷ Fs)

-- the draft with an instruction more in its last function
abbrev pub with_instr : Instr → Draft → Draft
with_instr i D = record D { functions = with_last (λ F. record F { code = F.code ++ i ∷ [] }) D.functions }

-- the draft with a catch more in its last function
abbrev pub with_catch : Catch → Draft → Draft
with_catch c D = record D { functions = with_last (λ F. record F { catches = F.catches ++ c ∷ [] }) D.functions }
