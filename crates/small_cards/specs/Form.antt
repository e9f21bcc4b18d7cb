-- Each card of the list is small.
-- Assumes nothing.
use Rattle.std.specs.Prelude.{ℕ, zero, suc, ◌+◌, ◌≡◌, true, ◌&&◌, map, length, get_or, leb, eqb}
use Rattle.std.proofs.Common.{ap, ◌∙◌, inl, arith, leb-true, eqb-true}
use Rattle.laws.specs.Bools.{and_left, and_right}
use Rattle.laws.specs.Members.{In, upto, each, of_each, of_map}
use Rattle.laws.specs.Runs.{all_by, all_at}
use Rattle.numbers.specs.Limits.{straight_kind, max_zones, max_time, max_films, max_bytes, max_rate, max_tried}
use Rattle.card.specs.declared.Figures.{Figures}
use Rattle.card_field.specs.declared.Rule.TheVariants.{Zones, Positions, Measure}
use Rattle.card_field.specs.Ranges.{fault_of, time_fault}
use Rattle.card_field.specs.RangeLaws.{first_clear, kind_legal}
use Rattle.card_table.specs.Table.{straight, table_fault}
use Rattle.card_table.specs.TableLaws.{straight_long}
use Rattle.card_table.specs.TableFaults.{table_fault_law}
use Rattle.card.specs.Card.{length_in, shelf_fault, film_fault, zone_faults, unused_zero, record_fault}
use Rattle.legality.specs.Legality.{fault_legal}
use Rattle.small_cards.specs.Cards.{small_figures, Small, threes, falling, lengths, small_cards}
use Rattle.small_cards.specs.Computed.{zones_pass, passes, has_form}

-- ---- the overheads

-- those of hop 1 and return 1 are legal
moves_clear : (f : Figures) → f.kind ≡ straight_kind → f.table ≡ straight 1 1 → table_fault f.kind f.table ≡ 0
moves_clear f k t = table_fault_law f.kind f.table (inl k) (record {
  straight = λ e. record { hop = 1; back = 1; hops = (omega arith, omega arith); backs = (omega arith, omega arith); same = t };
  measured = λ e. absurd (omega arith);
})

-- every card of the list has them
pub listed_moves : (f : Figures) → In f small_cards → (f.kind ≡ straight_kind) × (f.table ≡ straight 1 1)
unfolding small_cards small_figures
listed_moves f h =
    let z = of_each (λ z. each (threes z) (λ ps. each (falling z 3) (λ ts. map (small_figures z ps ts) (lengths ps)))) f (upto 1 3) h in
    let ps = of_each (λ ps. each (falling z.0 3) (λ ts. map (small_figures z.0 ps ts) (lengths ps))) f (threes z.0) z.2 in
    let ts = of_each (λ ts. map (small_figures z.0 ps.0 ts) (lengths ps.0)) f (falling z.0 3) ps.2 in
    let n = of_map (small_figures z.0 ps.0 ts.0) f (lengths ps.0) ts.2 in
    (ap (λ (g : Figures). g.kind) n.2, ap (λ (g : Figures). g.table) n.2)

-- ---- all else

zones_clear : (f : Figures) → table_fault f.kind f.table ≡ 0 → (left i total before : ℕ) → zones_pass left i f total before ≡ true
    → zone_faults 1 left i f total before ≡ 0
unfolding zones_pass zone_faults film_fault
zones_clear f t zero i total before e =
    let n = shelf_fault 1 total f.films f.blocks in
    let b = fault_of Measure max_bytes f.bytes in
    let c = fault_of Measure max_rate f.rate in
    let later = and_right (eqb n 0) _ e in
    first_clear (eqb-true n 0 (and_left (eqb n 0) _ e))
    (first_clear (eqb-true b 0 (and_left (eqb b 0) _ later))
    (first_clear (eqb-true c 0 (and_right (eqb b 0) _ later)) t))
zones_clear f t (suc left) i total before e =
    let p = fault_of Positions total (get_or f.positions i 0) in
    let s = time_fault (get_or f.times 0 0) before (get_or f.times i 0) in
    let later = and_right (eqb p 0) _ e in
    first_clear (eqb-true p 0 (and_left (eqb p 0) _ e))
    (first_clear (eqb-true s 0 (and_left (eqb s 0) _ later)) (zones_clear f t left (i + 1) _ _ (and_right (eqb s 0) _ later)))

passes_clear : (f : Figures) → f.kind ≡ straight_kind → f.table ≡ straight 1 1 → passes f ≡ true → record_fault 1 f ≡ 0
unfolding passes record_fault
passes_clear f k t e =
    let z = fault_of Zones 0 f.zones in
    let later = and_right (eqb z 0) _ e in
    first_clear (kind_legal 0 f.kind (inl k))
    (first_clear (eqb-true z 0 (and_left (eqb z 0) _ e))
    (first_clear (rw (and_left (unused_zero f) _ later)) (zones_clear f (moves_clear f k t) f.zones 0 0 max_time (and_right (unused_zero f) _ later))))

-- what the test says
pub form_small : (f : Figures) → f.kind ≡ straight_kind → f.table ≡ straight 1 1 → has_form f ≡ true → Small f
unfolding has_form
form_small f k t e =
    let e₁ = and_right (passes f) _ e in
    let e₂ = and_right (eqb (length f.positions) max_zones && (eqb (length f.times) max_zones && eqb (length f.blocks) max_films)) _ e₁ in
    let e₃ = and_right (leb f.zones 3 && (eqb f.films 1 && leb (length_in f 0) max_tried)) _ e₂ in
    let e₄ = and_right (all_by (λ (p : ℕ). leb p 3) f.positions && all_by (λ (t : ℕ). leb t 3) f.times) _ e₃ in
    let wide = and_left (eqb (length f.positions) max_zones && (eqb (length f.times) max_zones && eqb (length f.blocks) max_films)) _ e₁ in
    let few = and_left (leb f.zones 3 && (eqb f.films 1 && leb (length_in f 0) max_tried)) _ e₂ in
    let low = and_left (all_by (λ (p : ℕ). leb p 3) f.positions && all_by (λ (t : ℕ). leb t 3) f.times) _ e₃ in
    let long = eqb-true (length f.positions) max_zones (and_left (eqb (length f.positions) max_zones) _ wide) in
    let others = and_right (eqb (length f.positions) max_zones) _ wide in
    let wide₂ = eqb-true (length f.times) max_zones (and_left (eqb (length f.times) max_zones) _ others) in
    let wide₃ = eqb-true (length f.blocks) max_films (and_right (eqb (length f.times) max_zones) _ others) in
    let film = and_right (leb f.zones 3) _ few in
    let ok = fault_legal 1 f (long, wide₂, wide₃, ap length t ∙ straight_long 1 1) (passes_clear f k t (and_left (passes f) _ e)) in
    let ps = and_left (all_by (λ (p : ℕ). leb p 3) f.positions) _ low in
    let ts = and_right (all_by (λ (p : ℕ). leb p 3) f.positions) _ low in
    record {
      legal = ok;
      zones = omega (arith, leb-true f.zones 3 (and_left (leb f.zones 3) _ few));
      positions = λ i h. leb-true (get_or f.positions i 0) 3 (all_at 0 (λ (p : ℕ). leb p 3) f.positions i ps (omega (arith, ok.zones)));
      times = λ i h. leb-true (get_or f.times i 0) 3 (all_at 0 (λ (t : ℕ). leb t 3) f.times i ts (omega (arith, ok.zones)));
      film = eqb-true f.films 1 (and_left (eqb f.films 1) _ film);
      blocks = leb-true (length_in f 0) max_tried (and_right (eqb f.films 1) _ film);
      measures = (
        k,
        eqb-true f.bytes 1000 (and_left (eqb f.bytes 1000) _ e₄),
        eqb-true f.rate 1000 (and_right (eqb f.bytes 1000) _ e₄),
        t,
      );
    }
