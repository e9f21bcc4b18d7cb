use borrow.Author.Tests.{leb-false, lt-leb, eqb-true, eq-eqb}
use Rattle.soundness.proofs.Tells.{none_set, both_unset, kept_zero, zero_kept}
use Rattle.soundness.proofs.slots.misnamed.Goals as goal

pub returns : goal.returns
returns c =
    let film = c.one_if.ensures in (
      λ z. let b = both_unset z in
          record { film = leb-false _ _ (film.0 b.0); free = λ e. kept_zero c.bits_if.ensures b.1 (eq-eqb _ _ e) },
      λ n. none_set (film.1 (lt-leb _ _ n.film)) (zero_kept _ c.bits_if.ensures (λ e. n.free (eqb-true _ _ e))),
    )
