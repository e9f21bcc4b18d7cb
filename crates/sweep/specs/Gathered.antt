-- What is gathered for the slots of a record that is ready which fill or play by kinds ks: the times and positions of its supply.
-- Assumes nothing.
use Rattle.std.specs.Prelude.{ℕ, suc, ◌+◌, ◌*◌, ◌≤◌, ◌<◌, ◌≡◌, refl, ◌≢◌, true, List, [], ◌∷◌, get_or}
use Rattle.std.proofs.Common.{sym, ap, ap₂, ◌∙◌, arith}
use Rattle.std.proofs.Math.Logic.{by_cases}
use Rattle.std.proofs.Math.Decide.{dec_le, dec_lt}
use Rattle.numbers.specs.Limits.{max_positions, max_time, max_streams}
use Rattle.numbers.specs.Slots.{waiting, filling, playing}
use Rattle.words.specs.Words.{words_of}
use Rattle.card.specs.declared.Figures.{Figures}
use Rattle.card.specs.Card.{Legal, blocks_of}
use Rattle.placement.specs.Showing.{Showing, one, loop, pairs, visits_of, visits_few}
use Rattle.pacing.specs.Shelf.{film_in, block_in}
use Rattle.plan.specs.Plan.{showing_in, listed_at, time_on, position_in, entries_of, first_in, others_in, time_in}
use Rattle.plan.specs.Answer.{is_plan}
use Rattle.plan.proofs.Check.{checked}
use Rattle.plan.specs.Legal.{total_is, legal_zoned}
use Rattle.plan.proofs.Legal.{position_below}
use Rattle.plan.specs.Names.{Named, listed_below, position_listed}
use Rattle.plan.proofs.Names.{named_time}
use Rattle.desk.specs.declared.Desk.{Desk}
use Rattle.desk.specs.Shown.{others_by, Gathered, Gathers, InRange}
use Rattle.desk.specs.Desk.{visits_in, supply_of}
use Rattle.desk.specs.View.{Wide}
use Rattle.desk.specs.Ready.{Ready, streams_are}
use Rattle.desk_columns.specs.Films.{legal_small}
use Rattle.soundness.specs.Ready.{in_use}
use Rattle.soundness.specs.Tests.{sound_tidy, film_tidy}
use Rattle.gather.specs.declared.Block.{Block}
use Rattle.gather.specs.Gather.{Spot, Reached, Here, Nothing, next_number, block_at, Collected}

-- ---- a block in the list of positions

-- its entries are there, b being its number through the lists
entry_one : (x : Showing) (f : Figures) (b : ℕ) → visits_of x ≡ 1 → b < blocks_of f → b < entries_of x f
entry_one one f b e u = omega arith
entry_one loop f b e u = omega arith
entry_one pairs f b e u = omega arith

entry_two : (x : Showing) (f : Figures) (b : ℕ) → visits_of x ≢ 1 → b < blocks_of f → (2 * b < entries_of x f) × (2 * b + 1 < entries_of x f)
entry_two one f b n u = absurd (n refl)
entry_two loop f b n u = absurd (n refl)
entry_two pairs f b n u = omega arith

-- r is the block of the plan that a names, and in its range
record IsBlock (x : Showing) (f : Figures) (a : ℕ) (r : Block) : Type 0 where
  time : r.time ≡ time_in x f (film_in a) (block_in a)
  position : r.position ≡ first_in x f (film_in a) (block_in a)
  others : others_in x f (film_in a) (block_in a) ≡ others_by (visits_of x) r.other
  within : r.position < max_positions
  beside : r.other < max_positions

-- the list ps has the visits of the block that a names
abbrev Visited : Showing → Figures → List ℕ → ℕ → Type 0
Visited x f ps a = (j : ℕ) → j < visits_of x
    → get_or (words_of ps) (visits_of x * listed_at f a + j) 0 ≡ position_in x f (film_in a) (visits_of x * block_in a + j)

module _ (f : Figures) (ps : List ℕ) (a : ℕ) (n : Named f a) (r : Block) where
  -- where a block takes one visit
  whole_block : (l : ℕ → ℕ) → get_or (words_of ps) (1 * listed_at f a + 0) 0 ≡ l (1 * block_in a + 0) → l (block_in a) < max_positions
      → Here f.positions f.times ps 1 (listed_at f a) r
      → (r.time ≡ time_on f (l (block_in a))) × (r.position ≡ l (1 * block_in a)) × (r.position < max_positions) × (r.other < max_positions)
  whole_block l e p h =
      let w = h.alone refl in
      let i : listed_at f a ≡ 1 * listed_at f a + 0 = omega arith in
      let b : 1 * block_in a + 0 ≡ block_in a = omega arith in
      let m : block_in a ≡ 1 * block_in a = omega arith in
      let q : get_or (words_of ps) (listed_at f a) 0 ≡ l (block_in a) = ap (λ (v : ℕ). get_or (words_of ps) v 0) i ∙ e ∙ ap l b in
      (w.time ∙ ap (time_on f) q, w.position ∙ q ∙ ap l m, omega (arith, w.position, q), omega (arith, w.other))

  is_block_law : (x : Showing) → Legal (visits_of x) f → Visited x f ps a → Here f.positions f.times ps (visits_of x) (listed_at f a) r → IsBlock x f a r
  is_block_law one ok at h =
      let v = position_below one f ok (film_in a) (block_in a) n.0 (omega (arith, n.1)) in
      let w = whole_block (position_in one f (film_in a)) (at 0 (omega arith)) (omega (arith, v, ok.total)) h in
      record { time = w.0; position = w.1; others = refl; within = w.2; beside = w.3 }
  is_block_law loop ok at h =
      let v = position_below loop f ok (film_in a) (block_in a) n.0 (omega (arith, n.1)) in
      let w = whole_block (position_in loop f (film_in a)) (at 0 (omega arith)) (omega (arith, v, ok.total)) h in
      record { time = w.0; position = w.1; others = refl; within = w.2; beside = w.3 }
  is_block_law pairs ok at h =
      let two : ◌≢◌ {A = ℕ} 2 1 = λ e. omega arith in
      let i = film_in a in
      let b = block_in a in
      let l = position_in pairs f i in
      let w = h.both two in
      let here : 2 * listed_at f a ≡ 2 * listed_at f a + 0 = omega arith in
      let start : 2 * b + 0 ≡ 2 * b = omega arith in
      let next : 2 * b + 1 ≡ suc (2 * b) = omega arith in
      let first = ap (λ (v : ℕ). get_or (words_of ps) v 0) here ∙ at 0 (omega arith) ∙ ap l start in
      let second = at 1 (omega arith) ∙ ap l next in
      record {
        time = w.time ∙ ap₂ (λ (p q : ℕ). time_on f p + time_on f q) first second;
        position = w.position ∙ first;
        others = ap (λ (q : ℕ). q ∷ []) (sym (w.other ∙ second));
        within = omega (arith, w.position, first, position_below pairs f ok i (2 * b) n.0 (omega (arith, n.1)), ok.total);
        beside = omega (arith, w.other, second, position_below pairs f ok i (suc (2 * b)) n.0 (omega (arith, n.1)), ok.total);
      }

-- those that fill or play by ks ask, fill or play by the record
abbrev pub Reading : Desk → List ℕ → Type 0
Reading d ks = (i : ℕ) → filling ≤ get_or ks i 0 → get_or ks i 0 ≤ playing → (waiting ≤ get_or d.kinds i 0) × (get_or d.kinds i 0 ≤ playing)

module _ (d : Desk) (w : Wide d) (r : Ready d) (ps ls : List ℕ) (e : is_plan d.plan ps ls ≡ true) where
  -- the next block of an asked, filling or playing slot is a block of its film
  next_named : (i : ℕ) → i < max_streams → waiting ≤ get_or d.kinds i 0 → get_or d.kinds i 0 ≤ playing → Named d.plan.figures (get_or d.next i 0)
  next_named i l a b = ((sound_tidy d w r.sound).slots i l).named a b

  -- the list has an entry of the films
  spot : (v : ℕ) → v < entries_of (showing_in d.plan) d.plan.figures → Spot d.plan.figures.positions d.plan.figures.times ps v
  spot v u =
      let f = d.plan.figures in
      let c = checked d.plan ps ls e in
      let p = in_use (showing_in d.plan) f r.legal ps c.position_at v u in
      record { listed = omega (arith, c.long.0); within = omega (arith, p.below, total_is f r.legal); quick = p.quick }

  module _ (ks : List ℕ) (reading : Reading d ks) where
    -- and so the next block
    pub reached : Reached d ps (visits_in d.plan) ks d.plan.streams
    reached = record {
      zoned = legal_zoned d.plan.figures r.legal;
      shelved = legal_small d.plan.figures r.legal;
      films = λ i h. film_tidy ((sound_tidy d w r.sound).slots i (omega (arith, streams_are d r))) r.legal.films.0;
      here = λ i h a b. let k = reading i a b in
          let n = listed_below d.plan.figures _ (next_named i (omega (arith, streams_are d r)) k.0 k.1) in
          record {
            alone = λ v. spot _ (entry_one (showing_in d.plan) d.plan.figures _ v n);
            both = λ v. let u = entry_two (showing_in d.plan) d.plan.figures _ v n in (spot _ u.0, spot _ u.1);
          };
    }

    -- what was collected is what the plan says
    module _ (g : Gathered) (c : Collected d ps (visits_in d.plan) ks d.plan.streams g) where
      -- of slot i
      abbrev Own : ℕ → Type 0
      Own i = IsBlock (showing_in d.plan) d.plan.figures (get_or d.next i 0) (block_at g i)

      own : (i : ℕ) → i < max_streams → filling ≤ get_or ks i 0 → get_or ks i 0 ≤ playing → Own i
      own i l u v =
          let k = reading i u v in
          let n = next_named i l k.0 k.1 in
          let m : i < d.plan.streams = by_cases (dec_lt i d.plan.streams) (λ h. h)
          (λ h. absurd (omega (arith, (sound_tidy d w r.sound).unused i l (omega arith), k.0))) in
          is_block_law d.plan.figures ps _ n (block_at g i) (showing_in d.plan) r.legal (position_listed d.plan ps ls (checked d.plan ps ls e) _ n)
          ((c.found i m).here u v)

      pub gathers : Gathers (supply_of d.plan) (visits_in d.plan) ks d.next g
      unfolding supply_of
      gathers = record {
        times = λ i l u v. (own i l u v).time;
        positions = λ i l u v. (own i l u v).position;
        others = λ i l u v. (own i l u v).others;
      }

      abbrev Small : ℕ → Type 0
      Small i = (get_or g.times i 0 ≤ 2 * max_time) × (get_or g.positions i 0 < max_positions) × (get_or g.others i 0 < max_positions)

      nothing : (i : ℕ) → Nothing (block_at g i) → Small i
      nothing i z = (omega (arith, z.time), omega (arith, z.position), omega (arith, z.other))

      small : (i : ℕ) → Small i
      small i = by_cases (dec_lt i d.plan.streams) used (λ h. nothing i (c.rest i (omega arith)))
        where
          k : ℕ
          k = get_or ks i 0

          used : i < d.plan.streams → Small i
          used h =
              let x = showing_in d.plan in
              let l : i < max_streams = omega (arith, streams_are d r) in
              by_cases (dec_le filling k)
              (λ u. by_cases (dec_le k playing)
              (λ v. let o = own i l u v in
              let b = reading i u v in
              (omega (arith, o.time, (named_time x d.plan.figures r.legal _ (next_named i l b.0 b.1)).1, (visits_few x).1), o.within, o.beside))
              (λ v. nothing i ((c.found i h).other (λ _ y. v y))))
              (λ u. nothing i ((c.found i h).other (λ x _. u x)))

      pub in_range : InRange g
      in_range = record { times = λ i. (small i).0; positions = λ i. (small i).1; others = λ i. (small i).2 }
