-- Laws of what specs/Ways defines.
use Prim.Native.Nat.{ℕ, zero, suc, ◌+◌, ◌≤◌, ◌<◌}
use Rattle.std.specs.Prelude.{◌≡◌, Bool, ◌||◌, List, length}
use Rattle.std.proofs.Math.Path.{refl, sym, ap, ap₂}
use Rattle.std.proofs.Common.{◌∙◌, arith}
use Rattle.std.proofs.Math.Bool.{true, false}
use Rattle.std.proofs.Math.Dec.{ltb}
use borrow.Author.Tests.{ltb-true, ltb-false, lt-ltb}
use Rattle.laws.specs.Bools.{clash}
use Rattle.laws.specs.Greatest.{peak_same, peak_earliest}
use Rattle.laws.specs.Through.{Found}
use Rattle.numbers.specs.Limits.{scratch_length}
use Rattle.numbers.specs.Refusals.{too_short}
use Rattle.card.specs.declared.Figures.{Figures}
use Rattle.card.specs.declared.CardRead.{CardRead}
use Rattle.card.specs.Card.{Legal, total_positions, length_in, blocks_of}
use Rattle.placement.specs.Showing.{Showing, visits_of}
use Rattle.placement.proofs.Showing.{walked_worst_law, walked_at_law}
use Rattle.pacing.specs.Shelves.{worst_shelf}
use Rattle.words.specs.Words.{words_of}
use Rattle.plan.specs.Plan.{start_in, time_on, free_in, entries_of, worst2_in, worst2_of, worst_film_of, worst_at_in, worst_at_of}
use Rattle.plan.specs.Plan.{lead_in, leads_of}
use Rattle.plan.specs.Disk.{walked_leads, shelf_leads, walked_worst, walked_at}
use Rattle.plan.specs.Legal.{some_film, film_two, free_falling}
use Rattle.plan.proofs.Legal.{room_in_law, margin_less, walked_lead}
use Rattle.plan.specs.Answer.{plan_fault, fault_after, refusal, planned, positions_after}
use Rattle.plan.specs.Films.{rows_same}
use Rattle.plan.specs.Scratch.{scratch_leads, leads_lent, entries_asked, lists_short}
use Rattle.plan.specs.ScratchLaws.{scratch_short_law, scratch_long, short_leads_none}
use Rattle.plan.proofs.ScratchLaws.{long_leads_all}

module _ (x : Showing) (r : CardRead) (ps ls : List ℕ) where
  -- the figures are accepted: 13 or 12
  pub by_plan : (k : ℕ) → r.verdict.number ≡ 0 → fault_after x r ps ls ≡ suc k
      → (refusal (suc k) 0 ≡ planned x r ps ls) × (ps ≡ positions_after x r ps ls)
  unfolding planned positions_after
  by_plan k e d = rw (e, d) (refl, refl)

  -- the answer by its number
  pub by_refusal : (k : ℕ) → r.verdict.number ≡ 0 → k ≡ fault_after x r ps ls → (k ≡ 0 → ⊥) → refusal k 0 ≡ planned x r ps ls
  by_refusal zero e d n = absurd (n refl)
  by_refusal (suc k) e d n = (by_plan k e (sym d)).0

-- the two lengths, with a lead list or with a scratch
module _ (listed : Bool) (x : Showing) (f : Figures) (ps ls : List ℕ) where
  -- one is too short: 13
  pub lent_short : 0 < blocks_of f → lists_short listed (visits_of x) (blocks_of f) ps ls ≡ true
      → plan_fault x f (length (words_of ps)) (length (words_of (leads_lent listed x f ls))) ≡ too_short
  unfolding plan_fault
  lent_short some e = go listed e
    where
      alone : (t : Bool) → (t || ltb (length (words_of ls)) scratch_length) ≡ true → (t || ltb (length (words_of (scratch_leads x f ls))) (blocks_of f)) ≡ true
      alone true h = refl
      alone false h =
          let none = short_leads_none x f ls (scratch_short_law ls (ltb-true (length (words_of ls)) scratch_length h)) in
          lt-ltb (length (words_of (scratch_leads x f ls))) (blocks_of f) (omega arith)

      go : (b : Bool) → lists_short b (visits_of x) (blocks_of f) ps ls ≡ true
          → plan_fault x f (length (words_of ps)) (length (words_of (leads_lent b x f ls))) ≡ too_short
      go true h = rw h
      go false h = rw (alone (ltb (length (words_of ps)) (entries_of x f)) h)

  -- neither is: each has its entries
  pub lent_long : lists_short listed (visits_of x) (blocks_of f) ps ls ≡ false
      → (entries_of x f ≤ length (words_of ps)) × (blocks_of f ≤ length (words_of (leads_lent listed x f ls)))
      × (entries_asked listed (blocks_of f) ≤ length (words_of ls))
  lent_long e = go listed e
    where
      neither : (a b : Bool) → (a || b) ≡ false → (a ≡ false) × (b ≡ false)
      neither true b h = clash refl h
      neither false b h = (refl, h)

      go : (b : Bool) → lists_short b (visits_of x) (blocks_of f) ps ls ≡ false
          → (entries_of x f ≤ length (words_of ps)) × (blocks_of f ≤ length (words_of (leads_lent b x f ls))) × (entries_asked b (blocks_of f) ≤ length (words_of ls))
      go true h =
          let n = neither (ltb (length (words_of ps)) (entries_of x f)) (ltb (length (words_of ls)) (blocks_of f)) h in
          let l = ltb-false (length (words_of ls)) (blocks_of f) n.1 in
          (ltb-false (length (words_of ps)) (entries_of x f) n.0, l, l)
      go false h =
          let n = neither (ltb (length (words_of ps)) (entries_of x f)) (ltb (length (words_of ls)) scratch_length) h in
          let l = ltb-false (length (words_of ls)) scratch_length n.1 in
          let all = long_leads_all x f ls (scratch_long ls l) in
          (ltb-false (length (words_of ps)) (entries_of x f) n.0, omega arith, l)

-- t being P, the films of legal figures as the code walks them
module _ (x : Showing) (f : Figures) (ok : Legal (visits_of x) f) (t : ℕ) (e : t ≡ total_positions f) where
  -- and the leads, by the walk of one visit a block: of half blocks each is 0, a half taking less than both
  pub leads_are : (w : ℕ) → w ≡ worst2_of x f → shelf_leads f.positions f.times x t f.blocks w f.films ≡ leads_of x f
  unfolding leads_of
  leads_are w d =
      ap₂ (λ (n v : ℕ). shelf_leads f.positions f.times x n f.blocks v f.films) e d
      ∙ rows_same (walked_leads f.positions f.times x (total_positions f) f.blocks (worst2_of x f)) (lead_in x f) (length_in f) f.films
      (λ i b u h. sym (walked_lead x f ok i b u h))

  -- film i's own worst pair
  module _ (i : ℕ) (u : i < f.films) where
    worst2_is : walked_worst f.positions f.times x t f.blocks i ≡ worst2_in x f i
    worst2_is =
        ap (λ (n : ℕ). walked_worst f.positions f.times x n f.blocks i) e
        ∙ walked_worst_law (free_in x f i) (length_in f i) (time_on f) (free_falling x f ok i) x (room_in_law x f ok i u)

    worst_at_is : walked_at f.positions f.times x t f.blocks i ≡ worst_at_in x f i
    worst_at_is =
        ap (λ (n : ℕ). walked_at f.positions f.times x n f.blocks i) e
        ∙ ap (λ (b : ℕ). start_in f i + b)
        (walked_at_law (free_in x f i) (length_in f i) (time_on f) (free_falling x f ok i) x (room_in_law x f ok i u) (omega (arith, film_two f ok i u)))

  -- THE WORST PAIR OF ALL FILMS, as a walk over them finds it
  pub shelf_worst : (w b : ℕ)
      → Found (walked_worst f.positions f.times x t f.blocks) (walked_at f.positions f.times x t f.blocks) f.films w b
      → (w ≡ worst2_of x f) × (b ≡ worst_at_of x f)
  unfolding worst2_of worst_shelf worst_film_of worst_at_of
  shelf_worst w b d =
      let peak = peak_same (walked_worst f.positions f.times x t f.blocks) (worst2_in x f) f.films d.row w worst2_is d.peak in
      let film = peak_earliest (worst2_in x f) f.films d.row w peak in
      let below = (peak.some (some_film f ok)).below in (
        peak.value,
        d.place (omega (arith, peak.value, margin_less x f ok)) ∙ worst_at_is d.row below ∙ ap (worst_at_in x f) film,
      )
