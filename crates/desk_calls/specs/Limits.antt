-- What a slot may draw, by the length of the string D and by the slot.
-- Assumes nothing.
use Rattle.std.specs.Prelude.{ℕ, ◌*◌, ◌/◌, ◌≤◌, ◌<◌, ◌≡◌, List, length, get_or}
use Rattle.std.proofs.Math.Path.{sym, ap}
use Rattle.std.proofs.Common.{◌∙◌}
use borrow.Author.Tests.{lt-ltb, le-ltb, eq-eqb, ne_eqb}
use Rattle.numbers.specs.Limits.{max_streams}
use Rattle.numbers.specs.Units.{micros}
use Rattle.words.specs.Words.{words_of}
use Rattle.draws.specs.Draws.{kind_limit}
use Rattle.desk_layout.specs.Layout.{desk_in, desk_size}
use Rattle.desk_calls.specs.Calls.{said, draw_limit_of}

module _ (D : List ℕ) (slot bound : ℕ) where
  pub limit_other : (length D ≡ desk_size → ⊥) → 0 ≡ draw_limit_of D slot bound
  unfolding draw_limit_of
  limit_other o = rw (ne_eqb (length D) desk_size o)

  module _ (l : length D ≡ desk_size) where
    pub limit_past : max_streams ≤ slot → 0 ≡ draw_limit_of D slot bound
    unfolding draw_limit_of
    limit_past h = rw (eq-eqb (length D) desk_size l, le-ltb slot max_streams h)

    pub limit_right : slot < max_streams → draw_limit_of D slot bound ≡ kind_limit ((said D).plan.figures.rate * bound / micros) (get_or (said D).kinds slot 0)
    unfolding draw_limit_of
    limit_right h = rw (eq-eqb (length D) desk_size l, lt-ltb slot max_streams h)

    -- from the rate and the kind that were read
    pub limit_read : slot < max_streams → {k c m : ℕ} (r : ℕ) → k ≡ get_or (desk_in (words_of D)).kinds slot 0 → c ≡ (desk_in (words_of D)).plan.figures.rate
        → m ≡ c * bound / micros → r ≡ kind_limit m k → r ≡ draw_limit_of D slot bound
    unfolding said
    limit_read h r a b e q = q ∙ (λ i. kind_limit ((e ∙ ap (λ (x : ℕ). x * bound / micros) b) i) (a i)) ∙ sym (limit_right h)
