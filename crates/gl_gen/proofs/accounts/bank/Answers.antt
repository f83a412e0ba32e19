use Rattle.std.proofs.Common.{◌≡◌, ◌≤◌, ◌∙◌, [], ap, arith, subst, sym}
use Rattle.gl_asm.specs.Texts.{IsText}
use Rattle.gl_bytecode.specs.declared.fault.ProgError.TheVariants.{Fault}
use Rattle.gl_bytecode.specs.Faults.{IsFirstFault, TellsFirst, program_of}
use Rattle.gl_bytecode.specs.Programs.{draft_of}
use Rattle.gl_bytecode.proofs.OneMeaning.{apart}
use Rattle.gl_gen.specs.Bank.{bank_program}
use Rattle.gl_gen.specs.BankText.{bank_text}
use Rattle.gl_gen.proofs.BankIsRight.{bank_is_faultless}
use Rattle.gl_gen.proofs.BankIsText.{bank_is_text}
use Rattle.gl_gen.proofs.accounts.bank.Goals as goal

pub unreachable-requires : goal.unreachable-requires
unreachable-requires c =
    let n = c.args.transfers in
    let fault = c.in-Err-Fault.field-0-0 in
    let told : TellsFirst c.in_ok-parts.parts (Fault fault) =
    subst (λ e. TellsFirst c.in_ok-parts.parts e) c.in-Err-Fault.field-0-is c.in-Err-Fault.ensures.fault in
    let first : IsFirstFault (draft_of (bank_program n)) fault = subst (λ D. IsFirstFault D fault) c.in_ok-parts.ensures told in
    apart (bank_program n) fault (bank_is_faultless n) first

pub returns-in-Ok-clause-text : goal.returns-in-Ok-clause-text
returns-in-Ok-clause-text c =
    let n = c.args.transfers in
    let same : c.in-Ok.program ≡ bank_program n = ap program_of (sym c.in-Ok.ensures.same ∙ c.in_ok-parts.ensures) in
    let small : n ≤ 65535 = omega arith in
    subst (λ P. IsText (bank_text n) P []) (sym same) (bank_is_text n small)
