use borrow.Author.Rules.{rules}
use borrow.Author.Tests.{ltb-true, ltb-false, leb-false, eqb-true, lt-ltb, le-ltb, lt-leb, eq-eqb, not-false}
use Rattle.soundness.proofs.Tells.{none_set, both_unset, kept_zero, zero_kept, not_zero, zero_not, clear_tidy, tidy_clear}
use Rattle.soundness.proofs.slots.untidy.Statement.{statement}
use Rattle.soundness.proofs.slots.untidy.Tie as tie

returns : tie.Need-returns
returns c w last =
    let some = c in
    let past = c in
    let named = c in
    let below = c in
    let end = c in
    let empty = c in
    let fits = c in
    let known = c in
    let ends = end.name_end.ensures in (
      (λ z. let a = both_unset z in
          let b = both_unset a.0 in
          let d = both_unset b.0 in
          let r = both_unset d.0 in
          clear_tidy last ends (record {
            known = ltb-false _ _ (known.one_if.ensures.0 r.0);
            fits = ltb-false _ _ (fits.one_if-2.ensures.0 r.1);
            empty = λ l. kept_zero empty.bits_if-empty.ensures d.1 (lt-ltb _ _ l);
            named = λ l. leb-false _ _ (below.one_if-3.ensures.0 (kept_zero named.bits_if-named.ensures b.1 (lt-ltb _ _ l)));
            past = λ e. eqb-true _ _ (not-false _ (past.one_if-4.ensures.0
                (both_unset {a = past.one_if-4.result} {b = some.one_if-5.result}
                (kept_zero c.bits_if-tail.ensures a.1 (eq-eqb _ _ e))).0));
            some = λ e. not_zero _ (some.one_if-5.ensures.0
                (both_unset {a = past.one_if-4.result} {b = some.one_if-5.result}
                (kept_zero c.bits_if-tail.ensures a.1 (eq-eqb _ _ e))).1);
          })),
      (λ t. let k = tidy_clear last ends t in
          none_set
          (none_set
          (none_set
          (none_set (known.one_if.ensures.1 (le-ltb _ _ k.known)) (fits.one_if-2.ensures.1 (le-ltb _ _ k.fits)))
          (zero_kept _ empty.bits_if-empty.ensures (λ e. k.empty (ltb-true _ _ e))))
          (zero_kept _ named.bits_if-named.ensures (λ e. below.one_if-3.ensures.1 (lt-leb _ _ (k.named (ltb-true _ _ e))))))
          (zero_kept _ c.bits_if-tail.ensures (λ e. none_set
          (past.one_if-4.ensures.1 (rw (eq-eqb _ _ (k.past (eqb-true _ _ e)))))
          (some.one_if-5.ensures.1 (zero_not _ (k.some (eqb-true _ _ e))))))),
    )

pub untidy_spec : {M : Type 1} → statement M
untidy_spec =
    tie.close
    (tie.spec
    (λ c κs. search rules)
    (λ c κs. search rules)
    (λ c κs. search rules)
    (λ c κs. search rules)
    (λ c κs. search rules)
    (λ c κs. search rules)
    (λ c κs. search rules)
    (λ c κs. search rules)
    (λ c κs. search rules)
    returns)
