-- Each way that the reading of the rows can take, and what the arrays keep of them.
-- Assumes nothing.
use Prim.Native.Nat.{ℕ, zero, suc, ◌+◌, ◌-◌, ◌≤◌, ◌<◌}
use mathlib.Core.Path.{◌≡◌, refl, sym, ap, ap₂, ◌∙◌, subst}
use mathlib.Core.List.{List, [], ◌∷◌}
use mathlib.Core.Bool.{Bool, true, false, cond, ◌&&◌}
use native.Mathlib.Omega.{arith}
use native.Mathlib.Decide.{dec_lt, ℕ_discrete}
use lib.ListN.{length, get_or, set, length-set}
use lib.Seq.{get_or-set_same, get_or-set_other}
use lib.Dec.{ltb, eqb}
use borrow.Author.Tests.{ltb-true, eqb-true, lt-ltb, le-ltb}
use Rattle.laws.specs.Bools.{and_left, and_right}
use Rattle.numbers.specs.Limits.{max_zones, max_cylinder, max_track}
use Rattle.numbers.specs.Refusals.{line_form, wrong_row}
use Rattle.std.specs.Prelude.{Option, Some, None, Ok, Err}
use Rattle.decimal.specs.Decimal.{number_at}
use Rattle.decimal.specs.DecimalLaws.{found, same_number, read_decimal}
use Rattle.card.specs.Read.{blank_zones}
use Rattle.maker_rows.specs.declared.Rows.{Rows}
use Rattle.maker_lines.specs.Lines.{RowRead, space, line_feed, ended_by, word_at, then_word, row_fits, judged_row, row_at}
use Rattle.maker_rows.specs.Rows.{Row, cylinders_of, following, Listed, Zones, Refused, on_row, rows_from}
use Rattle.maker_rows.specs.Kept.{no_rows, kept_row, back_by, Kept, Holds}
use Rattle.maker_lines.proofs.LineWays.{RowFacts, row_facts}

-- ---- one row

-- a word of a line lies in the text, and its number before its end
pub word_number : (end : ℕ) (s : List ℕ) (at v next : ℕ) → word_at end s at ≡ Some (v, next)
    → (m : ℕ) × (number_at s at ≡ Some (v, m)) × (m < length s) × (get_or s m 0 ≡ end) × (next ≡ m + 1)
unfolding word_at ended_by
word_number end s at v next e = go (number_at s at) refl e
  where
    on : (w m : ℕ) → number_at s at ≡ Some (w, m) → (t : Bool) → (ltb m (length s) && eqb (get_or s m 0) end) ≡ t → cond {A = Option (ℕ × ℕ)} t (Some (w, m + 1)) None ≡ Some (v, next)
        → (m : ℕ) × (number_at s at ≡ Some (v, m)) × (m < length s) × (get_or s m 0 ≡ end) × (next ≡ m + 1)
    on w m q true t e =
        let (value, after) = same_number _ _ e in (
          m,
          q ∙ ap (λ (x : ℕ). found x m) value,
          ltb-true m (length s) (and_left (ltb m (length s)) _ t),
          eqb-true (get_or s m 0) end (and_right (ltb m (length s)) _ t),
          sym after,
        )
    on w m q false t e = absurd (let z : ◌≡◌ {A = ℕ} 0 1 = cc in omega arith)

    go : (G : Option (ℕ × ℕ)) → number_at s at ≡ G → ended_by end s G ≡ Some (v, next)
        → (m : ℕ) × (number_at s at ≡ Some (v, m)) × (m < length s) × (get_or s m 0 ≡ end) × (next ≡ m + 1)
    go (Some (w, m)) q e = on w m q (ltb m (length s) && eqb (get_or s m 0) end) refl e
    go None q e = absurd (let z : ◌≡◌ {A = ℕ} 0 1 = cc in omega arith)

pub word_after : (end : ℕ) (s : List ℕ) (at v next : ℕ) → word_at end s at ≡ Some (v, next) → at < next
word_after end s at v next e = let w = word_number end s at v next e in omega (arith, (read_decimal s at v w.0 w.1).0, w.4)

-- ---- one number after the other

module _ {A : Type 0} where
  -- what holds of either answer holds of it
  pub then_each : (P : A → Type 0) (G : Option (ℕ × ℕ)) (other : A) (go : ℕ → ℕ → A) → P other → ((v next : ℕ) → P (go v next)) → P (then_word G other go)
  unfolding then_word
  then_each P (Some (v, next)) other go p q = q v next
  then_each P None other go p q = p

  -- an answer that is not the other one came from a number
  pub then_from : (G : Option (ℕ × ℕ)) (other : A) (go : ℕ → ℕ → A) {x : A} → (other ≡ x → ⊥) → then_word G other go ≡ x
      → (v : ℕ) × (next : ℕ) × (G ≡ Some (v, next)) × (go v next ≡ x)
  unfolding then_word
  then_from (Some (v, next)) other go n e = (v, next, refl, e)
  then_from None other go n e = absurd (n e)

-- what a row was read from
pub record RowWords (first : ℕ) (s : List ℕ) (at last track next : ℕ) : Type 0 where
  pub at₁ : ℕ
  pub at₂ : ℕ
  pub one : word_at space s at ≡ Some (first, at₁)
  pub two : word_at space s at₁ ≡ Some (last, at₂)
  pub three : word_at line_feed s at₂ ≡ Some (track, next)
  pub facts : RowFacts first first last track

-- what a judged row says of its numbers
judged_zone : (first from last track next : ℕ) {l t n : ℕ} → judged_row first from last track next ≡ Ok (l, t, n)
    → (row_fits first from last track ≡ true) × (last ≡ l) × (track ≡ t) × (next ≡ n)
unfolding judged_row
judged_zone first from last track next {l} {t} {n} e = go (row_fits first from last track) refl e
  where
    go : (b : Bool) → row_fits first from last track ≡ b → cond {A = RowRead} b (Ok (last, track, next)) (Err wrong_row) ≡ Ok (l, t, n)
        → (row_fits first from last track ≡ true) × (last ≡ l) × (track ≡ t) × (next ≡ n)
    go true q e =
        let same : ◌≡◌ {A = ℕ × ℕ × ℕ} (last, track, next) (l, t, n) = cc in
        (q, ap (λ (x : ℕ × ℕ × ℕ). x.0) same, ap (λ (x : ℕ × ℕ × ℕ). x.1) same, ap (λ (x : ℕ × ℕ × ℕ). x.2) same)
    go false q e = absurd (let z : ◌≡◌ {A = ℕ} 0 1 = cc in omega arith)

pub row_words : (first : ℕ) (s : List ℕ) (at last track next : ℕ) → row_at first s at ≡ Ok (last, track, next) → RowWords first s at last track next
unfolding row_at
row_words first s at last track next e =
    let one = then_from (word_at space s at) _ _ bad e in
    let two = then_from (word_at space s one.1) _ _ bad one.3 in
    let three = then_from (word_at line_feed s two.1) _ _ bad two.3 in
    let judged = judged_zone first one.0 two.0 three.0 three.1 three.3 in
    let facts = row_facts first one.0 two.0 three.0 judged.0 in
    record {
      at₁ = one.1;
      at₂ = two.1;
      one = one.2 ∙ ap (λ (x : ℕ). found x one.1) facts.follows;
      two = two.2 ∙ ap (λ (x : ℕ). found x two.1) judged.1;
      three = three.2 ∙ ap₂ found judged.2 judged.3;
      facts = record {
        follows = refl;
        rises = omega (arith, facts.follows, facts.rises, judged.1);
        near = omega (arith, facts.near, judged.1);
        tracks = omega (arith, facts.tracks, judged.2);
      };
    }
  where
    bad : ◌≡◌ {A = RowRead} (Err line_form) (Ok (last, track, next)) → ⊥
    bad e = let z : ◌≡◌ {A = ℕ} 0 1 = cc in omega arith

-- a refused row has a number
abbrev Numbered : RowRead → Type 0
Numbered r = (k : ℕ) → r ≡ Err k → 0 < k

judged_numbered : (first from last track next : ℕ) → Numbered (judged_row first from last track next)
unfolding judged_row
judged_numbered first from last track next k e = go (row_fits first from last track) e
  where
    go : (b : Bool) → cond {A = RowRead} b (Ok (last, track, next)) (Err wrong_row) ≡ Err k → 0 < k
    go true e = absurd (let z : ◌≡◌ {A = ℕ} 0 1 = cc in omega arith)
    go false e = let same : wrong_row ≡ k = cc in omega arith

pub row_number : (first : ℕ) (s : List ℕ) (at k : ℕ) → row_at first s at ≡ Err k → 0 < k
unfolding row_at
row_number first s at =
    then_each Numbered _ _ _ form (λ from at₁.
    then_each Numbered _ _ _ form (λ last at₂.
    then_each Numbered _ _ _ form (λ track next.
    judged_numbered first from last track next)))
  where
    form : Numbered (Err line_form)
    form k e = let same : line_form ≡ k = cc in omega arith

-- a row was read before its end
pub row_after : (first : ℕ) (s : List ℕ) (at last track next : ℕ) → row_at first s at ≡ Ok (last, track, next) → at < next
row_after first s at last track next e =
    let w = row_words first s at last track next e in
    omega (arith, word_after _ _ _ _ _ w.one, word_after _ _ _ _ _ w.two, word_after _ _ _ _ _ w.three)

-- ---- the rows

-- the rows that may still follow change nothing, as long as they are enough
pub rows_fuel : (s : List ℕ) (k l at : ℕ) (zs : List Row) → length s - at ≤ k → length s - at ≤ l → rows_from k s at zs ≡ rows_from l s at zs
unfolding rows_from on_row
rows_fuel s zero zero at zs h m = refl
rows_fuel s zero (suc l) at zs h m = rw (le-ltb at (length s) (omega arith))
rows_fuel s (suc k) zero at zs h m = rw (le-ltb at (length s) (omega arith))
rows_fuel s (suc k) (suc l) at zs h m = go (ltb at (length s)) refl (λ next zs'. rows_fuel s k l next zs')
  where
    more : ℕ → ℕ → ℕ → ℕ → Listed
    more left last track next = rows_from left s next (record { first = following zs; last = last; track = track } ∷ zs)

    Later : Type 0
    Later = (next : ℕ) (zs' : List Row) → length s - next ≤ k → length s - next ≤ l → rows_from k s next zs' ≡ rows_from l s next zs'

    on : (r : RowRead) → row_at (following zs) s at ≡ r → at < length s → Later → on_row (length zs + 2) r (more k) ≡ on_row (length zs + 2) r (more l)
    on (Err n) q t later = refl
    on (Ok (last, track, next)) q t later =
        let far = row_after (following zs) s at last track next q in
        later next (record { first = following zs; last = last; track = track } ∷ zs) (omega arith) (omega arith)

    go : (t : Bool) → ltb at (length s) ≡ t → Later
        → cond t (on_row (length zs + 2) (row_at (following zs) s at) (more k)) (Zones zs) ≡ cond t
        (on_row (length zs + 2) (row_at (following zs) s at) (more l)) (Zones zs)
    go true e later = on (row_at (following zs) s at) refl (ltb-true at (length s) e) later
    go false e later = refl

module _ (s : List ℕ) (at : ℕ) (zs : List Row) where
  pub rows_end : length s ≤ at → (left : ℕ) → rows_from left s at zs ≡ Zones zs
  unfolding rows_from
  rows_end h zero = refl
  rows_end h (suc left) = rw (le-ltb at (length s) h)

  pub rows_stop : (k : ℕ) → at < length s → row_at (following zs) s at ≡ Err k → rows_from (length s - at) s at zs ≡ Refused k (length zs + 2)
  rows_stop k h e = go (length s - at) refl
    where
      go : (left : ℕ) → length s - at ≡ left → rows_from left s at zs ≡ Refused k (length zs + 2)
      go zero q = absurd (omega arith)
      go (suc left) q = unfold rows_from on_row in rw (lt-ltb at (length s) h, e)

  pub rows_more : (last track next : ℕ) → at < length s → row_at (following zs) s at ≡ Ok (last, track, next)
      → rows_from (length s - at) s at zs ≡ rows_from (length s - next) s next (record { first = following zs; last = last; track = track } ∷ zs)
  rows_more last track next h e = go (length s - at) refl
    where
      go : (left : ℕ) → length s - at ≡ left
          → rows_from left s at zs ≡ rows_from (length s - next) s next (record { first = following zs; last = last; track = track } ∷ zs)
      go zero q = absurd (omega arith)
      go (suc left) q =
          let far = row_after (following zs) s at last track next e in
          unfold rows_from on_row in rw (lt-ltb at (length s) h, e) (rows_fuel s left (length s - next) next _ (omega arith) (omega arith))

-- ---- what the arrays keep

pub kept_full : (r : Rows) (c t : ℕ) → max_zones ≤ r.count
    → ◌≡◌ {A = Rows} (record { count = r.count + 1; cylinders = r.cylinders; tracks = r.tracks }) (kept_row r c t)
unfolding kept_row
kept_full r c t h = rw (le-ltb r.count max_zones h)

pub kept_room : (r : Rows) (c t : ℕ) → r.count < max_zones
    → ◌≡◌ {A = Rows} (record {
      count = r.count + 1;
      cylinders = set r.cylinders r.count c;
      tracks = set r.tracks r.count t;
    }) (kept_row r c t)
unfolding kept_row
kept_room r c t h = rw (lt-ltb r.count max_zones h)

pub kept_none : Kept no_rows []
unfolding no_rows blank_zones back_by
kept_none = record { count = refl; wide = (refl, refl); same = λ h f. refl; fits = λ k h l. absurd (omega arith) }

-- g and h agree below n
back_same : (n : ℕ) (g h : ℕ → ℕ) → ((k : ℕ) → k < n → g k ≡ h k) → back_by n g ≡ back_by n h
unfolding back_by
back_same zero g h e = refl
back_same (suc n) g h e = ap₂ (λ (x : ℕ) (xs : List ℕ). x ∷ xs) (e n (omega arith)) (back_same n g h (λ k l. e k (omega arith)))

-- one entry more in both arrays
put_same : (cylinders tracks : List ℕ) (n c t : ℕ) (f : ℕ → ℕ → ℕ) → n < length cylinders → n < length tracks
    → back_by (suc n) (λ k. f (get_or (set cylinders n c) k 0) (get_or (set tracks n t) k 0)) ≡ f c t ∷ back_by n (λ k. f (get_or cylinders k 0) (get_or tracks k 0))
unfolding back_by
put_same cylinders tracks n c t f h m =
    ap₂ (λ (x : ℕ) (xs : List ℕ). x ∷ xs) (ap₂ f (get_or-set_same cylinders n c 0 h) (get_or-set_same tracks n t 0 m))
    (back_same n _ _ (λ k l. ap₂ f (get_or-set_other cylinders n k c 0 (λ q. omega arith)) (get_or-set_other tracks n k t 0 (λ q. omega arith))))

pub kept_more : (r : Rows) (zs : List Row) (z : Row) → Kept r zs → cylinders_of z ≤ max_cylinder + 1 → (1 ≤ z.track) × (z.track ≤ max_track)
    → Kept (kept_row r (cylinders_of z) z.track) (z ∷ zs)
kept_more r zs z k h t = go (dec_lt r.count max_zones)
  where
    n : ℕ
    n = r.count

    c : ℕ
    c = cylinders_of z

    go : Dec (r.count < max_zones) → Kept (kept_row r (cylinders_of z) z.track) (z ∷ zs)
    go (no l) = rw (sym (kept_full r (cylinders_of z) z.track (omega arith))) (record {
      count = omega (arith, k.count);
      wide = k.wide;
      same = λ m. absurd (omega (arith, k.count));
      fits = λ i p q. k.fits i (omega (arith, k.count)) q;
    })
    go (yes l) = rw (sym (kept_room r (cylinders_of z) z.track l)) (record {
      count = omega (arith, k.count);
      wide = (length-set r.cylinders n c ∙ k.wide.0, length-set r.tracks n z.track ∙ k.wide.1);
      same = λ m f.
          rw k.count (put_same r.cylinders r.tracks (length zs) c z.track f (omega (arith, k.wide.0)) (omega (arith, k.wide.1)))
          ∙ ap (λ (xs : List ℕ). f c z.track ∷ xs) (k.same (omega arith) f);
      fits = λ i p q. each i p q (ℕ_discrete i n);
    })
      where
        each : (i : ℕ) → i < suc (length zs) → i < max_zones → Dec (i ≡ n)
            → (get_or (set r.cylinders n c) i 0 ≤ max_cylinder + 1) × (0 < get_or (set r.tracks n z.track) i 0)
            × (get_or (set r.tracks n z.track) i 0 ≤ max_track)
        each i p q (yes e) =
            let a = get_or-set_same r.cylinders n c 0 (omega (arith, k.wide.0)) in
            let b = get_or-set_same r.tracks n z.track 0 (omega (arith, k.wide.1)) in
            rw e (omega (arith, a, b, t))
        each i p q (no e) =
            let o = k.fits i (omega (arith, k.count)) q in
            rw (get_or-set_other r.cylinders n i c 0 e, get_or-set_other r.tracks n i z.track 0 e) o

-- ---- the loop

-- the rows before `at` are read, and kept
pub record Reading (s : List ℕ) (start : ℕ) (r : Rows) (first at : ℕ) : Type 0 where
  pub zs : List Row
  pub kept : Kept r zs
  pub next : first ≡ following zs
  pub few : length zs ≤ following zs
  pub near : following zs ≤ max_cylinder + 1
  pub whole : rows_from (length s - at) s at zs ≡ rows_from (length s) s start []

pub reading_start : (s : List ℕ) (start : ℕ) (r : Rows) → r ≡ no_rows → Reading s start r 0 start
unfolding following
reading_start s start r e = record {
  zs = [];
  kept = rw e kept_none;
  next = refl;
  few = omega arith;
  near = omega arith;
  whole = rows_fuel s (length s - start) (length s) start [] (omega arith) (omega arith);
}

module _ (s : List ℕ) (start : ℕ) (r : Rows) (first at : ℕ) (l : Reading s start r first at) (R : RowRead) (read : R ≡ row_at first s at) where
  -- what the row says, by the rows before it
  row_is : {x : RowRead} → R ≡ x → row_at (following l.zs) s at ≡ x
  row_is e = ap (λ (n : ℕ). row_at n s at) (sym l.next) ∙ sym read ∙ e

  module _ {last track next : ℕ} (zone : R ≡ Ok (last, track, next)) where
    pub zone_facts : (first ≤ last) × (last ≤ max_cylinder) × (r.count ≤ first)
    zone_facts = let f = (row_words first s at last track next (sym read ∙ zone)).facts in (f.rises, f.near, omega (arith, l.kept.count, l.few, l.next))

    pub zone_after : at < next
    zone_after = row_after first s at last track next (sym read ∙ zone)

    pub reading_more : at < length s → (r' : Rows) → r' ≡ kept_row r (last - first + 1) track → Reading s start r' (last + 1) next
    unfolding following cylinders_of
    reading_more h r' e =
        let f = (row_words first s at last track next (sym read ∙ zone)).facts in
        let same : last - first + 1 ≡ cylinders_of z = omega (arith, l.next) in
        record {
          zs = z ∷ l.zs;
          kept = rw (e, same) (kept_more r l.zs z l.kept (omega (arith, f.near)) f.tracks);
          next = refl;
          few = omega (arith, l.few, l.next, f.rises);
          near = omega (arith, f.near);
          whole = sym (rows_more s at l.zs last track next h (row_is zone)) ∙ l.whole;
        }
      where
        z : Row
        z = record { first = following l.zs; last = last; track = track }

  pub reading_stop : at < length s → {k : ℕ} → R ≡ Err k → Holds (Err (record { number = k; line = r.count + 2 })) (rows_from (length s) s start [])
  reading_stop h {k} e =
      let w = row_is e in
      subst (Holds (Err (record { number = k; line = r.count + 2 }))) (sym (rows_stop s at l.zs k h w) ∙ l.whole) (row_number _ s at k w, refl, omega (arith, l.kept.count))

pub reading_end : (s : List ℕ) (start : ℕ) (r : Rows) (first at : ℕ) → Reading s start r first at → length s ≤ at
    → Holds (Ok r) (rows_from (length s) s start [])
reading_end s start r first at l h = subst (Holds (Ok r)) (sym (rows_end s at l.zs h (length s - at)) ∙ l.whole) l.kept
