-- What a begin leaves in a desk string: the places are written over what it wrote before.
-- Assumes nothing.
use Prim.Native.Nat.{ℕ, ◌≤◌}
use mathlib.Core.Path.{◌≡◌}
use mathlib.Core.List.{List}
use mir.Syntax.{w8}
use mir.Val.{Fits}
use lib.ListN.{length, get_or}
use Rattle.numbers.specs.Limits.{max_streams}
use Rattle.words.specs.Words.{words_of, with_words}
use Rattle.words.specs.Laws.{bytes_fit}
use Rattle.desk.specs.declared.Desk.{Desk}
use Rattle.desk_layout.specs.Layout.{desk_words, desk_in, desk_size, with_kinds, with_places}
use Rattle.desk_layout.specs.Sized.{sized_in}
use Rattle.desk_layout.specs.Parts.{places_over}

-- u is the string D after the kinds are written, t after the places are
module _ (D u t qs : List ℕ) (y : (i : ℕ) → Fits w8 (get_or D i 0)) (h : desk_size ≤ length D) (l : length qs ≡ max_streams)
    (e : t ≡ with_words u 0 (desk_words (with_places (desk_in (words_of u)) qs))) where
  abbrev d : Desk
  d = desk_in (words_of D)

  pub kinds_then_places : (x : ℕ) (ks : List ℕ) → length ks ≡ max_streams → u ≡ with_words D 0 (desk_words (with_kinds d x ks))
      → t ≡ with_words D 0 (desk_words (with_places (with_kinds d x ks) qs))
  kinds_then_places x ks m a =
      let z = sized_in D h in
      places_over D u t _ qs (bytes_fit D y) h (record { plan = z.plan; kinds = m; next = z.next; held = z.held; places = z.places }) l a e
