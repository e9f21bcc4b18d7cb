-- A slot's word for its film and next block, as the test of the slots takes it apart.
-- Assumes nothing.
use Prim.Native.Nat.{ℕ, ◌<◌}
use mathlib.Core.Path.{◌≡◌, sym, ap, ◌∙◌}
use native.Mathlib.Omega.{arith}
use Rattle.card.specs.declared.Figures.{Figures}
use Rattle.card.specs.Card.{length_in}
use Rattle.pacing.specs.Shelf.{film_in, block_in}
use Rattle.soundness.specs.Facts.{Tidy, TidyWithin, WellNamed, OneFilm}
use Rattle.soundness.specs.Tests.{film_tidy}

-- N of the film that a word names is that of the first
first : (f : Figures) (N x : ℕ) → N ≡ length_in f 0 → film_in x ≡ 0 → length_in f (film_in x) ≡ N
first f N x e z = ap (length_in f) z ∙ sym e

module _ {w : ℕ} (f : Figures) {buffer k x h : ℕ} where
  -- of a shelf of one film, of N blocks, the word is the block
  module _ (o : OneFilm f) {N : ℕ} (e : N ≡ length_in f 0) where
    pub film_is_tidy : TidyWithin w N buffer k x h → Tidy w f buffer k x h
    film_is_tidy t = record {
      kinds = t.kinds;
      zeros = t.zeros;
      empty = t.empty;
      named = λ a b. let n = t.named a b in
          let z : film_in x ≡ 0 = omega (arith, o.few) in
          (omega (arith, o.one), omega (arith, first f N x e z));
      ends = t.ends;
      past = λ q. let n = t.past q in
          let z : film_in x ≡ 0 = omega (arith, o.few) in
          (omega (arith, o.one), omega (arith, o.few, first f N x e z));
      some = t.some;
      fits = t.fits;
    }

    pub tidy_is_film : Tidy w f buffer k x h → TidyWithin w N buffer k x h
    tidy_is_film t = record {
      kinds = t.kinds;
      zeros = t.zeros;
      empty = t.empty;
      named = λ a b. let n = t.named a b in
          let z : film_in x ≡ 0 = omega (arith, o.one, n.0) in
          omega (arith, first f N x e z, n.1);
      ends = t.ends;
      past = λ q. let n = t.past q in
          let z : film_in x ≡ 0 = omega (arith, o.one, n.0) in
          omega (arith, first f N x e z, n.1);
      some = t.some;
      fits = t.fits;
    }

  -- of a shelf the word names a film, and then its block is tested against that film's own
  pub shelf_is_tidy : TidyWithin w (length_in f (film_in x)) buffer k (block_in x) h → WellNamed f.films k x → Tidy w f buffer k x h
  shelf_is_tidy t n = record {
    kinds = t.kinds;
    zeros = λ e. (n.free e, (t.zeros e).1);
    empty = t.empty;
    named = λ a b. (n.film, t.named a b);
    ends = t.ends;
    past = λ q. (n.film, t.past q);
    some = t.some;
    fits = t.fits;
  }

  pub tidy_is_shelf : 0 < f.films → Tidy w f buffer k x h
      → TidyWithin w (length_in f (film_in x)) buffer k (block_in x) h × WellNamed f.films k x
  tidy_is_shelf some t = (
    record {
      kinds = t.kinds;
      zeros = λ e. (omega (arith, (t.zeros e).0), (t.zeros e).1);
      empty = t.empty;
      named = λ a b. (t.named a b).1;
      ends = t.ends;
      past = λ q. (t.past q).1;
      some = t.some;
      fits = t.fits;
    },
    record { film = film_tidy t some; free = λ e. (t.zeros e).0 },
  )
