use Rattle.std.proofs.Common.{◌≡◌, ℕ, ◌++◌, string_bytes, rules, append_assoc, ap, ◌∙◌}
use Rattle.gl_bytecode.specs.Programs.{function_at}
use Rattle.gl_asm.specs.Listing.{body, header}
use Rattle.gl_asm.proofs.ListingLemmas.{function_is}
use Rattle.gl_asm.proofs.listing.push_function.Goals as goal

pub returns-clause-text : goal.returns-clause-text
returns-clause-text c =
    let main = c.args.main in
    let f = c.args.f in
    let shape : ℕ × ℕ = (c.in-Some.args, c.in-Some.locals) in
    let code = c.in_ok-code.code.items in
    let catches = c.in_ok-catches.catches.items in
    let start = string_bytes c.args.out.now in
    let top : string_bytes c.push_header.new.out ≡ start ++ header main f shape.0 shape.1 = search rules in
    let all : string_bytes c.push_body.new.out ≡ string_bytes c.push_header.new.out ++ body main code catches = search rules in
    all ∙ ap (λ s. s ++ body main code catches) top ∙ append_assoc start (header main f shape.0 shape.1) (body main code catches)
    ∙ ap (λ s. start ++ s) (function_is (function_at c.args.program.now f) main f shape code catches c.in-Some.ensures (search rules)
    (search rules))
