-- Each way that the reading of a line can take.
-- Assumes nothing.
use Prim.Native.Nat.{ℕ, ◌+◌, ◌≤◌, ◌<◌}
use mathlib.Core.Path.{◌≡◌, refl, sym, ap, ◌∙◌}
use mathlib.Core.List.{List}
use mathlib.Core.Bool.{Bool, true, false}
use native.Mathlib.Omega.{arith}
use native.Mathlib.Decide.{dec_lt}
use lib.ListN.{length, get_or}
use lib.Dec.{leb, eqb}
use borrow.Author.Tests.{leb-true, eqb-true, lt-ltb, le-ltb, le-leb, lt-leb, eq-eqb, ne_eqb}
use Rattle.laws.specs.Bools.{and_left, and_right, and_both, clash}
use Rattle.numbers.specs.Limits.{no_number, max_turns, max_switch, max_heads, max_block, max_cylinder, max_track}
use Rattle.numbers.specs.Refusals.{line_form, wrong_heading, wrong_row}
use Rattle.std.specs.Prelude.{Option, Some, None, Ok, Err}
use Rattle.std.proofs.lemmas.Option.{none-some}
use Rattle.decimal.specs.Decimal.{number_at, capped, capped_number}
use Rattle.decimal.specs.DecimalLaws.{found, same_number, capped_small, capped_great}
use Rattle.maker_lines.specs.Lines.{space, ended_by, word_at, then_word, within, heading_fits}
use Rattle.maker_lines.specs.Lines.{Heading, RowRead, row_fits, judged_heading, judged_row, then_three, three_read, heading_in, row_at}

-- ---- a number and the byte after it

-- what a capped number was
uncapped : (G : Option (ℕ × ℕ)) {v next : ℕ} → capped_number G ≡ Some (v, next) → (w : ℕ) × (G ≡ Some (w, next)) × (capped w ≡ v)
unfolding capped_number
uncapped (Some (w, m)) {v} {next} e = let (value, after) = same_number _ _ e in (w, ap (λ (x : ℕ). found w x) after, value)
uncapped None {v} {next} e = absurd (none-some (v, next) e)

uncapped_other : (G : Option (ℕ × ℕ)) → capped_number G ≡ None → G ≡ None
unfolding capped_number
uncapped_other (Some d) e = absurd (none-some _ (sym e))
uncapped_other None e = refl

module _ (end : ℕ) (s : List ℕ) (at : ℕ) {F : Option (ℕ × ℕ)} (read : F ≡ capped_number (number_at s at)) where
  pub word_none : F ≡ None → None ≡ capped_number (word_at end s at)
  unfolding word_at ended_by capped_number
  word_none e = rw (uncapped_other (number_at s at) (sym read ∙ e))

  module _ {v next : ℕ} (e : F ≡ Some (v, next)) where
    pub word_out : length s ≤ next → None ≡ capped_number (word_at end s at)
    unfolding word_at ended_by capped_number
    word_out h = let g = uncapped (number_at s at) (sym read ∙ e) in rw (g.1, le-ltb next (length s) h)

    pub word_wrong : next < length s → (get_or s next 0 ≡ end → ⊥) → None ≡ capped_number (word_at end s at)
    unfolding word_at ended_by capped_number
    word_wrong h n = let g = uncapped (number_at s at) (sym read ∙ e) in rw (g.1, lt-ltb next (length s) h, ne_eqb (get_or s next 0) end n)

    pub word_right : next < length s → get_or s next 0 ≡ end → found v (next + 1) ≡ capped_number (word_at end s at)
    unfolding word_at ended_by capped_number
    word_right h n =
        let g = uncapped (number_at s at) (sym read ∙ e) in
        rw (g.1, lt-ltb next (length s) h, eq-eqb (get_or s next 0) end n) (ap (λ (x : ℕ). found x (next + 1)) (sym g.2))

-- ---- ranges

pub within_range : (most v : ℕ) → within most v ≡ true → (1 ≤ v) × (v ≤ most)
unfolding within
within_range most v e = (leb-true 1 v (and_left (leb 1 v) (leb v most) e), leb-true v most (and_right (leb 1 v) (leb v most) e))

pub range_within : (most v : ℕ) → (1 ≤ v) × (v ≤ most) → within most v ≡ true
unfolding within
range_within most v (l, h) = and_both (le-leb 1 v l) (le-leb v most h)

pub within_none : (most v : ℕ) → v < 1 → within most v ≡ false
unfolding within
within_none most v h = rw (lt-leb 1 v h)

pub within_some : (most v : ℕ) → 1 ≤ v → leb v most ≡ within most v
unfolding within
within_some most v h = rw (le-leb 1 v h)

module _ (turns switch heads block next : ℕ) where
  pub heading_turns : within max_turns turns ≡ false → Err wrong_heading ≡ judged_heading turns switch heads block next
  unfolding judged_heading heading_fits
  heading_turns e = rw e

  module _ (a : within max_turns turns ≡ true) where
    pub heading_switch : within max_switch switch ≡ false → Err wrong_heading ≡ judged_heading turns switch heads block next
    unfolding judged_heading heading_fits
    heading_switch e = rw (a, e)

    module _ (b : within max_switch switch ≡ true) where
      pub heading_heads : within max_heads heads ≡ false → Err wrong_heading ≡ judged_heading turns switch heads block next
      unfolding judged_heading heading_fits
      heading_heads e = rw (a, b, e)

      module _ (c : within max_heads heads ≡ true) where
        pub heading_block : within max_block block ≡ false → Err wrong_heading ≡ judged_heading turns switch heads block next
        unfolding judged_heading heading_fits
        heading_block e = rw (a, b, c, e)

        pub heading_fits_law : within max_block block ≡ true → ◌≡◌ {A = Heading}
            (Ok (record { turns = turns; switch = switch; heads = heads; block = block }, next)) (judged_heading turns switch heads block next)
        unfolding judged_heading heading_fits
        heading_fits_law e = rw (a, b, c, e)

module _ (first from last track next : ℕ) where
  pub row_gap : (from ≡ first → ⊥) → Err wrong_row ≡ judged_row first from last track next
  unfolding judged_row row_fits
  row_gap n = rw (ne_eqb from first n)

  module _ (a : from ≡ first) where
    pub row_falls : last < from → Err wrong_row ≡ judged_row first from last track next
    unfolding judged_row row_fits
    row_falls h = rw (eq-eqb from first a, lt-leb from last h)

    module _ (b : from ≤ last) where
      pub row_far : max_cylinder < last → Err wrong_row ≡ judged_row first from last track next
      unfolding judged_row row_fits
      row_far h = rw (eq-eqb from first a, le-leb from last b, lt-leb last max_cylinder h)

      module _ (c : last ≤ max_cylinder) where
        pub row_track : within max_track track ≡ false → Err wrong_row ≡ judged_row first from last track next
        unfolding judged_row row_fits
        row_track e = rw (eq-eqb from first a, le-leb from last b, le-leb last max_cylinder c, e)

        pub row_fits_law : within max_track track ≡ true → ◌≡◌ {A = RowRead} (Ok (last, track, next)) (judged_row first from last track next)
        unfolding judged_row row_fits
        row_fits_law e = rw (eq-eqb from first a, le-leb from last b, le-leb last max_cylinder c, e)

-- a row that fits, as facts
pub record RowFacts (first from last track : ℕ) : Type 0 where
  pub follows : from ≡ first
  pub rises : from ≤ last
  pub near : last ≤ max_cylinder
  pub tracks : (1 ≤ track) × (track ≤ max_track)

pub row_facts : (first from last track : ℕ) → row_fits first from last track ≡ true → RowFacts first from last track
unfolding row_fits
row_facts first from last track e =
    let later = and_right (eqb from first) _ e in
    let near = and_right (leb from last) _ later in
    record {
      follows = eqb-true from first (and_left (eqb from first) _ e);
      rises = leb-true from last (and_left (leb from last) _ later);
      near = leb-true last max_cylinder (and_left (leb last max_cylinder) (within max_track track) near);
      tracks = within_range max_track track (and_right (leb last max_cylinder) (within max_track track) near);
    }

pub facts_row : (first from last track : ℕ) → RowFacts first from last track → row_fits first from last track ≡ true
unfolding row_fits
facts_row first from last track f =
    and_both (eq-eqb from first f.follows)
    (and_both (le-leb from last f.rises) (and_both (le-leb last max_cylinder f.near) (range_within max_track track f.tracks)))

-- a line one that fits, as facts
pub record HeadingFacts (turns switch heads block : ℕ) : Type 0 where
  pub turns_in : (1 ≤ turns) × (turns ≤ max_turns)
  pub switch_in : (1 ≤ switch) × (switch ≤ max_switch)
  pub heads_in : (1 ≤ heads) × (heads ≤ max_heads)
  pub block_in_law : (1 ≤ block) × (block ≤ max_block)

pub heading_facts : (turns switch heads block : ℕ) → heading_fits turns switch heads block ≡ true → HeadingFacts turns switch heads block
unfolding heading_fits
heading_facts turns switch heads block e =
    let later = and_right (within max_turns turns) _ e in
    let last = and_right (within max_switch switch) _ later in
    record {
      turns_in = within_range max_turns turns (and_left (within max_turns turns) _ e);
      switch_in = within_range max_switch switch (and_left (within max_switch switch) _ later);
      heads_in = within_range max_heads heads (and_left (within max_heads heads) (within max_block block) last);
      block_in_law = within_range max_block block (and_right (within max_heads heads) (within max_block block) last);
    }

pub facts_heading : (turns switch heads block : ℕ) → HeadingFacts turns switch heads block → heading_fits turns switch heads block ≡ true
unfolding heading_fits
facts_heading turns switch heads block f =
    and_both (range_within max_turns turns f.turns_in)
    (and_both (range_within max_switch switch f.switch_in) (and_both (range_within max_heads heads f.heads_in) (range_within max_block block f.block_in_law)))

-- ---- a cap changes no judgement

-- a capped number that is small was not capped
pub capped_was : (v : ℕ) → capped v < no_number → capped v ≡ v
capped_was v h = elim (dec_lt v no_number) [ yes l ↦ capped_small v l | no l ↦ absurd (omega (arith, capped_great v (omega arith))) ]

module _ (turns switch heads block next : ℕ) where
  heading_uncapped : HeadingFacts (capped turns) (capped switch) (capped heads) (capped block) → HeadingFacts turns switch heads block
  heading_uncapped f =
      let a = capped_was turns (omega (arith, f.turns_in)) in
      let b = capped_was switch (omega (arith, f.switch_in)) in
      let c = capped_was heads (omega (arith, f.heads_in)) in
      let d = capped_was block (omega (arith, f.block_in_law)) in
      record { turns_in = rw a at f.turns_in; switch_in = rw b at f.switch_in; heads_in = rw c at f.heads_in; block_in_law = rw d at f.block_in_law }

  -- the numbers of a line one that fits are not capped
  heading_same : HeadingFacts turns switch heads block
      → judged_heading (capped turns) (capped switch) (capped heads) (capped block) next ≡ judged_heading turns switch heads block next
  heading_same f = rw (
    capped_small turns (omega (arith, f.turns_in)),
    capped_small switch (omega (arith, f.switch_in)),
    capped_small heads (omega (arith, f.heads_in)),
    capped_small block (omega (arith, f.block_in_law)),
  )

  pub heading_capped : judged_heading (capped turns) (capped switch) (capped heads) (capped block) next ≡ judged_heading turns switch heads block next
  heading_capped = go (heading_fits turns switch heads block) refl
    where
      other : (t : Bool) → heading_fits (capped turns) (capped switch) (capped heads) (capped block) ≡ t → heading_fits turns switch heads block ≡ false
          → judged_heading (capped turns) (capped switch) (capped heads) (capped block) next ≡ judged_heading turns switch heads block next
      other true p q = clash (facts_heading _ _ _ _ (heading_uncapped (heading_facts _ _ _ _ p))) q
      other false p q = unfold judged_heading in rw (p, q)

      go : (t : Bool) → heading_fits turns switch heads block ≡ t
          → judged_heading (capped turns) (capped switch) (capped heads) (capped block) next ≡ judged_heading turns switch heads block next
      go true e = heading_same (heading_facts turns switch heads block e)
      go false e = other (heading_fits (capped turns) (capped switch) (capped heads) (capped block)) refl e

module _ (first from last track next : ℕ) (small : first < no_number) where
  row_uncapped : RowFacts first (capped from) (capped last) (capped track) → RowFacts first from last track
  row_uncapped f =
      let a = capped_was from (omega (arith, f.follows)) in
      let b = capped_was last (omega (arith, f.near)) in
      let c = capped_was track (omega (arith, f.tracks)) in
      record { follows = sym a ∙ f.follows; rises = omega (arith, f.rises); near = omega (arith, f.near); tracks = rw c at f.tracks }

  row_same : RowFacts first from last track → judged_row first (capped from) (capped last) (capped track) next ≡ judged_row first from last track next
  row_same f = rw (capped_small from (omega (arith, f.follows)), capped_small last (omega (arith, f.near)), capped_small track (omega (arith, f.tracks)))

  pub row_capped : judged_row first (capped from) (capped last) (capped track) next ≡ judged_row first from last track next
  row_capped = go (row_fits first from last track) refl
    where
      other : (t : Bool) → row_fits first (capped from) (capped last) (capped track) ≡ t → row_fits first from last track ≡ false
          → judged_row first (capped from) (capped last) (capped track) next ≡ judged_row first from last track next
      other true p q = clash (facts_row _ _ _ _ (row_uncapped (row_facts _ _ _ _ p))) q
      other false p q = unfold judged_row in rw (p, q)

      go : (t : Bool) → row_fits first from last track ≡ t
          → judged_row first (capped from) (capped last) (capped track) next ≡ judged_row first from last track next
      go true e = row_same (row_facts first from last track e)
      go false e = other (row_fits first (capped from) (capped last) (capped track)) refl e

-- ---- one number after the other

module _ {A : Type 0} where
  module _ {F G : Option (ℕ × ℕ)} (same : F ≡ G) (other : A) (go : ℕ → ℕ → A) where
    pub word_stops : F ≡ None → other ≡ then_word G other go
    unfolding then_word
    word_stops e = ap (λ (x : Option (ℕ × ℕ)). then_word x other go) (sym e ∙ same)

    pub word_goes : {v next : ℕ} → F ≡ Some (v, next) → go v next ≡ then_word G other go
    unfolding then_word
    word_goes e = ap (λ (x : Option (ℕ × ℕ)). then_word x other go) (sym e ∙ same)

  -- with capped numbers
  pub then_capped : (G : Option (ℕ × ℕ)) (other : A) (go go' : ℕ → ℕ → A) → ((v next : ℕ) → go (capped v) next ≡ go' v next)
      → then_word (capped_number G) other go ≡ then_word G other go'
  unfolding then_word capped_number
  then_capped (Some (v, next)) other go go' h = h v next
  then_capped None other go go' h = refl

-- ---- three numbers

unfoldable on_three : {A : Type 0} → Option (ℕ × ℕ × ℕ × ℕ) → A → (ℕ → ℕ → ℕ → ℕ → A) → A
on_three None other go = other
on_three (Some (a, b, c, next)) other go = go a b c next

then_into : {A B : Type 0} (f : A → B) (G : Option (ℕ × ℕ)) (other : A) (go : ℕ → ℕ → A) (other' : B) (go' : ℕ → ℕ → B)
    → f other ≡ other' → ((v next : ℕ) → f (go v next) ≡ go' v next) → f (then_word G other go) ≡ then_word G other' go'
unfolding then_word
then_into f (Some (v, next)) other go other' go' e h = h v next
then_into f None other go other' go' e h = e

-- a line's capped words
abbrev pub cap_word : List ℕ → ℕ → ℕ → Option (ℕ × ℕ)
cap_word s end at = capped_number (word_at end s at)

module _ {A : Type 0} (s : List ℕ) (at : ℕ) (other : A) (go : ℕ → ℕ → ℕ → ℕ → A) where
  three_then : on_three (three_read s at) other go ≡ then_three (cap_word s) at other go
  unfolding on_three three_read
  three_then =
      let f : Option (ℕ × ℕ × ℕ × ℕ) → A = λ x. on_three x other go in
      then_into f _ _ _ _ _ refl (λ a at₁. then_into f _ _ _ _ _ refl (λ b at₂. then_into f _ _ _ _ _ refl (λ c next. refl)))

  module _ {F : Option (ℕ × ℕ × ℕ × ℕ)} (same : F ≡ three_read s at) where
    pub three_stops : F ≡ None → other ≡ then_three (cap_word s) at other go
    unfolding on_three
    three_stops e = ap (λ (x : Option (ℕ × ℕ × ℕ × ℕ)). on_three x other go) (sym e ∙ same) ∙ three_then

    pub three_goes : {a b c next : ℕ} → F ≡ Some (a, b, c, next) → go a b c next ≡ then_three (cap_word s) at other go
    unfolding on_three
    three_goes e = ap (λ (x : Option (ℕ × ℕ × ℕ × ℕ)). on_three x other go) (sym e ∙ same) ∙ three_then

  -- a cap changes nothing of what goes on alike
  three_capped : (go' : ℕ → ℕ → ℕ → ℕ → A) → ((a b c next : ℕ) → go (capped a) (capped b) (capped c) next ≡ go' a b c next)
      → then_three (cap_word s) at other go ≡ then_three (λ end from. word_at end s from) at other go'
  three_capped go' h = then_capped _ _ _ _ (λ a at₁. then_capped _ _ _ _ (λ b at₂. then_capped _ _ _ _ (λ c next. h a b c next)))

-- a line of capped numbers, as the code reads it
unfoldable pub heading_read : List ℕ → Heading
heading_read s =
    then_word (cap_word s space 0) (Err line_form) (λ turns at.
    then_three (cap_word s) at (Err line_form) (λ switch heads block next. judged_heading turns switch heads block next))

pub heading_read_law : (s : List ℕ) → heading_read s ≡ heading_in s
unfolding heading_read heading_in
heading_read_law s = then_capped _ _ _ _ (λ turns at. three_capped s at _ _ _ (λ switch heads block next. heading_capped turns switch heads block next))

unfoldable pub row_read : ℕ → List ℕ → ℕ → RowRead
row_read first s at = then_three (cap_word s) at (Err line_form) (λ from last track next. judged_row first from last track next)

pub row_read_law : (first : ℕ) → first < no_number → (s : List ℕ) (at : ℕ) → row_read first s at ≡ row_at first s at
unfolding row_read row_at
row_read_law first small s at = three_capped s at _ _ _ (λ from last track next. row_capped first from last track next small)
