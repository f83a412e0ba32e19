use Rattle.std.proofs.Common.{Bool, List, [], ◌∷◌, Option, IfSome, inl, inr, find, bytes_eq, lit≤, sym, subst}
use Rattle.std.specs.List.{AllByRecursion}
use Rattle.std.proofs.lemmas.Bool.{cases_Bool}
use Rattle.gl_bytecode.specs.declared.instr.Instr.{Instr}
use Rattle.gl_bytecode.specs.Faults.{ThrowsInRange}
use Rattle.gl_asm.specs.declared.table.TheConstants.{INSTRUCTIONS}
use Rattle.gl_asm.specs.Words.{word_of}
use Rattle.gl_asm.proofs.table.template_of.Goals as goal

-- what is found is one of them
found_in : {A : Type 0} (P : A → Type 0) (p : A → Bool) (xs : List A) → AllByRecursion P xs → IfSome (find p xs) P
found_in P p [] all = tt
found_in P p (x ∷ xs) all =
    elim (cases_Bool (p x)) [
      | inl e ↦ rw e all.0
      | inr e ↦ rw e (found_in P p xs all.1)
    ]

all_in_range : AllByRecursion ThrowsInRange INSTRUCTIONS
all_in_range = (
  tt,
  (
    tt,
    (
      tt,
      (
        tt,
        (
          tt,
          (
            tt,
            (
              tt,
              (
                tt,
                (
                  tt,
                  (
                    tt,
                    (
                      tt,
                      (
                        tt,
                        (
                          tt,
                          (
                            tt,
                            (
                              tt,
                              (
                                tt,
                                (
                                  tt,
                                  (
                                    tt,
                                    (
                                      tt,
                                      (
                                        tt,
                                        (
                                          tt,
                                          (
                                            tt,
                                            (
                                              tt,
                                              (
                                                tt,
                                                (
                                                  tt,
                                                  (
                                                    tt,
                                                    (
                                                      (lit≤ tt, lit≤ tt),
                                                      (
                                                        tt,
                                                        (
                                                          tt,
                                                          (
                                                            tt,
                                                            (tt, (tt, (tt, (tt, (tt, (tt, (tt, (tt, (tt, (tt, (tt, (tt, tt)))))))))))),
                                                          ),
                                                        ),
                                                      ),
                                                    ),
                                                  ),
                                                ),
                                              ),
                                            ),
                                          ),
                                        ),
                                      ),
                                    ),
                                  ),
                                ),
                              ),
                            ),
                          ),
                        ),
                      ),
                    ),
                  ),
                ),
              ),
            ),
          ),
        ),
      ),
    ),
  ),
)

pub returns-clause-thrown : goal.returns-clause-thrown
returns-clause-thrown c =
    subst (λ (o : Option Instr). IfSome o ThrowsInRange) (sym c.instr_of.ensures)
    (found_in ThrowsInRange (λ i. bytes_eq (word_of i) c.args.word.now) INSTRUCTIONS all_in_range)
