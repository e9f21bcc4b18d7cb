-- What is written is read back, and what is accepted is what would be written.
-- Assumes nothing.
use Rattle.std.specs.Prelude.{ℕ, zero, suc, ◌+◌, ◌*◌, ◌≤◌, ◌<◌, ◌≡◌, refl, ◌⊎◌, List, ◌++◌, true, length, get_or, set, drop, leb}
use Rattle.std.proofs.Math.Path.{sym}
use Rattle.std.proofs.Common.{ap, ap₂, ◌∙◌, subst, inl, inr, arith, length-set, le-leb}
use Rattle.std.proofs.Math.Logic.{by_cases}
use Rattle.std.proofs.Math.Decide.{ℕ_discrete}
use Rattle.laws.specs.Each.{zero_at}
use Rattle.numbers.specs.Limits.{straight_kind, measured_kind, no_number, max_zones, max_time, times_as_fast, max_films, max_bytes, max_rate}
use Rattle.leb128.specs.Number.{Bytes}
use Rattle.card.specs.declared.Figures.{Figures}
use Rattle.card.specs.declared.Scalars.{Scalars}
use Rattle.card.specs.declared.CardRead.{CardRead}
use Rattle.card_field.specs.declared.Rule.TheVariants.{Kind, Zones, Positions, Measure}
use Rattle.card_field.specs.Ranges.{first, fault_of, time_fault}
use Rattle.card_table.specs.Table.{table_fault, table_numbers}
use Rattle.card.specs.Card.{Legal, shelf_fault, film_fault, zone_faults, record_fault, film_numbers, zone_numbers, numbers_of, card_of, write_fault, written_card, buffer_after}
use Rattle.card.specs.Read.{blank_zones, blank_figures, accepted, refused_card, figures_from, card_end, film_from, zones_from, after_zones, read_card}
use Rattle.card.specs.ReadLaws.{read_holds}
use Rattle.card_field.specs.RangeLaws.{first_none, first_clear, kind_range, zones_range, positions_range, time_range, kind_legal, zones_legal, time_legal}
use Rattle.round_trip.specs.Ahead.{Ahead, ahead_next, field_goes, end_goes, Got, got_goes, still_accepted, accepted_field, end_got, ahead_more}
use Rattle.round_trip.specs.Entries.{Agree, agree_self, agree_all, agree_next, agree_back}
use Rattle.legality.specs.Legality.{Wide, Kinded, fault_judged, judged_fault, fault_film, fault_legal, legal_fault}
use Rattle.round_trip.specs.ShelfTrip.{shelf_goes, ShelfRest, shelf_got}
use Rattle.round_trip.specs.TableTrip.{table_goes, TableRest, table_got}

-- a time that is not refused beside one first time is not refused beside another that it is not too fast for
time_beside : (innermost other before v : ℕ) → other ≤ times_as_fast * v → time_fault innermost before v ≡ 0 → time_fault other before v ≡ 0
time_beside innermost other before v h e = let r = time_range before v innermost e in time_legal before v other r.0 r.1 r.2 h

-- ---- what is written is read back

-- the films, B and c are read, and the overheads stand after them
film_goes : (k : ℕ) (s : List ℕ) (f : Figures) (at total : ℕ) (go : ℕ → List ℕ → ℕ → ℕ → ℕ → CardRead) {r : CardRead}
    → ((next : ℕ) → Ahead s next (table_numbers f.kind f.table) → table_fault f.kind f.table ≡ 0
    → go f.films f.blocks f.bytes f.rate next ≡ r)
    → Wide f → Ahead s at (film_numbers f) → film_fault k f total ≡ 0 → film_from k s at total go ≡ r
unfolding film_from film_numbers film_fault
film_goes k s f at total go on w a e =
    let l = fault_film k f total w.3 e in
    let n = first_none (shelf_fault k total f.films f.blocks) _ e in
    let b = first_none (fault_of Measure max_bytes f.bytes) _ n.1 in
    let c = first_none (fault_of Measure max_rate f.rate) _ b.1 in
    shelf_goes k s f.blocks _ f.films at total _ (λ next a₁.
    field_goes a₁ (fault_of Measure max_bytes) _ (omega (arith, l.bytes)) b.0
    ∙ field_goes (ahead_next a₁) (fault_of Measure max_rate) _ (omega (arith, l.rate)) c.0
    ∙ on _ (ahead_next (ahead_next a₁)) c.1) w.2 a n.0

-- positions and times are those of f but for `left` entries from the i-th on; the first time is 0 or that of f
record Filled (i left : ℕ) (ps ts : List ℕ) (f : Figures) : Type 0 where
  positions : Agree i left ps f.positions
  times : Agree i left ts f.times
  innermost : get_or ts 0 0 ≤ get_or f.times 0 0

-- the zones from the i-th on are read, and the films stand after them
zones_go : (k : ℕ) (s : List ℕ) (f : Figures) → Wide f → (go : List ℕ → List ℕ → ℕ → ℕ → CardRead) {r : CardRead}
    → ((total next : ℕ) → Ahead s next (film_numbers f) → film_fault k f total ≡ 0 → go f.positions f.times total next ≡ r)
    → (left at i : ℕ) (ps ts : List ℕ) (total before : ℕ) → i + left ≤ max_zones → Filled i left ps ts f
    → Ahead s at (zone_numbers left i f) → zone_faults k left i f total before ≡ 0 → zones_from left s at i ps ts total before go ≡ r
unfolding zones_from zone_numbers zone_faults
zones_go k s f w go on zero at i ps ts total before b u a e =
    ap₂ (λ (x y : List ℕ). go x y total at) (agree_all i _ _ u.positions) (agree_all i _ _ u.times) ∙ on total at a e
zones_go k s f w go on (suc left) at i ps ts total before b u a e =
    let p = first_none (fault_of Positions total (get_or f.positions i 0)) _ e in
    let q = first_none (time_fault (get_or f.times 0 0) before (get_or f.times i 0)) _ p.1 in
    let few = positions_range total (get_or f.positions i 0) p.0 in
    let slow = time_range before (get_or f.times i 0) (get_or f.times 0 0) q.0 in
    let times = agree_next i left ts f.times (omega (arith, u.times.long)) u.times in
    let next : Filled (i + 1) left (set ps i (get_or f.positions i 0)) (set ts i (get_or f.times i 0)) f = record {
      positions = agree_next i left ps f.positions (omega (arith, u.positions.long)) u.positions;
      times = times;
      innermost = omega (arith, times.low 0 (omega arith));
    } in
    field_goes a (fault_of Positions total) _ (omega arith) p.0
    ∙ field_goes (ahead_next a) (time_fault (get_or ts 0 0) before) _ (omega arith)
    (time_beside (get_or f.times 0 0) (get_or ts 0 0) before (get_or f.times i 0) (omega (arith, u.innermost)) q.0)
    ∙ zones_go k s f w go on left _ (i + 1) _ _ _ _ (omega arith) next (ahead_next (ahead_next a)) q.1

-- the films, the overheads and the end are read
rest_goes : (k : ℕ) (s : List ℕ) (f : Figures) → Wide f → Kinded f → (total at : ℕ) → Ahead s at (film_numbers f) → film_fault k f total ≡ 0
    → after_zones k s f.kind f.zones f.positions f.times total at ≡ record { verdict = accepted; figures = f }
rest_goes k s f w d total at a e =
    film_goes k s f at total _ (λ next a₁ e₁.
    table_goes s f.table w.3 next _ (λ end a₂. end_goes s end f a₂) f.kind d a₁ e₁) w a e

-- the entries of a record before any is read
pub blank_at : (i : ℕ) → get_or blank_zones i 0 ≡ 0
unfolding blank_zones
blank_at i = zero_at max_zones i

pub blank_long : length blank_zones ≡ max_zones
unfolding blank_zones
blank_long = refl

kind_small : {v : ℕ} → (v ≡ straight_kind) ⊎ (v ≡ measured_kind) → v < no_number
kind_small (inl e) = omega arith
kind_small (inr e) = omega arith

-- A WRITTEN CARD IS READ BACK
pub card_read : (k : ℕ) (f : Figures) → Wide f → record_fault k f ≡ 0 → read_card k (card_of f) ≡ record { verdict = accepted; figures = f }
unfolding read_card card_of numbers_of
card_read k f w e =
    let j = fault_judged k f e in
    let a : Ahead (card_of f) 0 (numbers_of f) = record { inside = omega arith; bytes = refl } in
    let u : Filled 0 f.zones blank_zones blank_zones f = record {
      positions = record { long = blank_long ∙ sym w.0; low = λ i h. absurd (omega arith); high = λ i h. blank_at i ∙ sym (j.unused i (omega arith)).0 };
      times = record { long = blank_long ∙ sym w.1; low = λ i h. absurd (omega arith); high = λ i h. blank_at i ∙ sym (j.unused i (omega arith)).1 };
      innermost = omega (arith, blank_at 0);
    } in
    field_goes a (fault_of Kind 0) _ (kind_small j.kind) (kind_legal 0 f.kind j.kind)
    ∙ field_goes (ahead_next a) (fault_of Zones 0) _ (omega (arith, j.zones)) (zones_legal 0 f.zones j.zones.0 j.zones.1)
    ∙ zones_go k (card_of f) f w _ (rest_goes k (card_of f) f w j.kind) f.zones _ 0 _ _ 0 max_time (omega (arith, j.zones)) u (ahead_next (ahead_next a))
    j.faults

-- ---- what is accepted is what would be written

-- the single numbers of a card
abbrev scalars_of : ℕ → ℕ → ℕ → List ℕ → ℕ → ℕ → Scalars
scalars_of kind z films ns b c = record { kind = kind; zones = z; films = films; blocks = ns; bytes = b; rate = c }

-- the films, B and c that are read from an offset on
record FilmRest (k : ℕ) (s : List ℕ) (at total : ℕ) : Type 0 where
  films : ℕ
  blocks : List ℕ
  bytes : ℕ
  rate : ℕ
  next : ℕ
  inside : next ≤ length s
  long : length blocks ≡ max_films
  is : (go : ℕ → List ℕ → ℕ → ℕ → ℕ → CardRead) → film_from k s at total go ≡ go films blocks bytes rate next
  faults : (kind z : ℕ) (ps ts os : List ℕ) → table_fault kind os ≡ 0 → film_fault k (figures_from (scalars_of kind z films blocks bytes rate) ps ts os) total ≡ 0
  ahead : (kind z : ℕ) (ps ts os : List ℕ) → Ahead s next (table_numbers kind os)
      → Ahead s at (film_numbers (figures_from (scalars_of kind z films blocks bytes rate) ps ts os))

-- B and c after the films
measures_rest : (k : ℕ) (s : List ℕ) (at total : ℕ) (n : ShelfRest k s at total) (b : Got (fault_of Measure max_bytes) s n.next)
    (c : Got (fault_of Measure max_rate) s b.next) → FilmRest k s at total
unfolding film_from film_fault film_numbers
measures_rest k s at total n b c = record {
  films = n.films;
  blocks = n.blocks;
  bytes = b.value;
  rate = c.value;
  next = c.next;
  inside = c.stands.inside;
  long = n.long;
  is = λ g. n.is _ ∙ got_goes (fault_of Measure max_bytes) s n.next _ b ∙ got_goes (fault_of Measure max_rate) s b.next _ c;
  faults = λ kind z ps ts os t. first_clear n.faults (first_clear b.clear (first_clear c.clear t));
  ahead = λ kind z ps ts os a. n.ahead _ (ahead_more b.stands (ahead_more c.stands a));
}

-- an accepted card has them
film_got : (k : ℕ) (s : List ℕ) (at total : ℕ) (go : ℕ → List ℕ → ℕ → ℕ → ℕ → CardRead) → Bytes s → (film_from k s at total go).verdict.number ≡ 0
    → FilmRest k s at total
unfolding film_from
film_got k s at total go y e =
    let n = shelf_got k s at total _ y e in
    accepted_field (fault_of Measure max_bytes) s n.next _ y (still_accepted (n.is _) e) (λ b e₁.
    accepted_field (fault_of Measure max_rate) s b.next _ y e₁ (λ c e₂. measures_rest k s at total n b c))

-- the zones that are read from an offset on into ps and ts, from the i-th entry on
record ZonesRest (left : ℕ) (s : List ℕ) (at i : ℕ) (ps ts : List ℕ) (total before : ℕ) : Type 0 where
  positions : List ℕ
  times : List ℕ
  all : ℕ
  next : ℕ
  inside : next ≤ length s
  placed : Agree i left ps positions
  timed : Agree i left ts times
  is : (go : List ℕ → List ℕ → ℕ → ℕ → CardRead) → zones_from left s at i ps ts total before go ≡ go positions times all next
  faults : (k : ℕ) (x : Scalars) (os : List ℕ) → film_fault k (figures_from x positions times os) all ≡ 0
      → zone_faults k left i (figures_from x positions times os) total before ≡ 0
  ahead : (x : Scalars) (os : List ℕ) → Ahead s next (film_numbers (figures_from x positions times os))
      → Ahead s at (zone_numbers left i (figures_from x positions times os))

-- a zone in front of a rest is a rest with one zone more
zone_rest : (left : ℕ) (s : List ℕ) (at i : ℕ) (ps ts : List ℕ) (total before : ℕ) → i < length ps → i < length ts
    → (p : Got (fault_of Positions total) s at) (t : Got (time_fault (get_or ts 0 0) before) s p.next)
    → ZonesRest left s t.next (i + 1) (set ps i p.value) (set ts i t.value) (total + p.value) t.value
    → ZonesRest (suc left) s at i ps ts total before
unfolding zones_from zone_faults zone_numbers
zone_rest left s at i ps ts total before b d p t r =
    by (agree_back i left ps r.positions b p.value r.placed) (agree_back i left ts r.times d t.value r.timed)
  where
    -- the first time is the one that was read before, or this one
    thrice : get_or r.times i 0 ≡ t.value → Agree i (suc left) ts r.times → get_or r.times 0 0 ≤ times_as_fast * t.value
    thrice e a = by_cases (ℕ_discrete 0 i)
        (λ n. omega (arith, subst (λ (k : ℕ). get_or r.times k 0 ≡ t.value) (sym n) e))
        (λ n. omega (arith, a.low 0 (omega arith), time_range before t.value (get_or ts 0 0) t.clear))

    by : (get_or r.positions i 0 ≡ p.value) × Agree i (suc left) ps r.positions → (get_or r.times i 0 ≡ t.value) × Agree i (suc left) ts r.times
        → ZonesRest (suc left) s at i ps ts total before
    by qs us = record {
      positions = r.positions;
      times = r.times;
      all = r.all;
      next = r.next;
      inside = r.inside;
      placed = qs.1;
      timed = us.1;
      is = λ go. got_goes (fault_of Positions total) s at _ p ∙ got_goes (time_fault (get_or ts 0 0) before) s p.next _ t ∙ r.is go;
      faults = λ k x os e. rw (qs.0, us.0)
          (first_clear p.clear (first_clear (time_beside _ _ before t.value (thrice us.0 us.1) t.clear) (r.faults k x os e)));
      ahead = λ x os a. rw (qs.0, us.0) (ahead_more p.stands (ahead_more t.stands (r.ahead x os a)));
    }

-- an accepted card has each zone
zones_got : (left : ℕ) (s : List ℕ) (at i : ℕ) (ps ts : List ℕ) (total before : ℕ) (go : List ℕ → List ℕ → ℕ → ℕ → CardRead)
    → Bytes s → at ≤ length s → i + left ≤ length ps → i + left ≤ length ts → (zones_from left s at i ps ts total before go).verdict.number ≡ 0
    → ZonesRest left s at i ps ts total before
unfolding zones_from zone_faults zone_numbers
zones_got zero s at i ps ts total before go y l b d e = record {
  positions = ps;
  times = ts;
  all = total;
  next = at;
  inside = l;
  placed = agree_self i ps;
  timed = agree_self i ts;
  is = λ g. refl;
  faults = λ k x os h. h;
  ahead = λ x os a. a;
}
zones_got (suc left) s at i ps ts total before go y l b d e =
    accepted_field (fault_of Positions total) s at _ y e (λ p e₁.
    accepted_field (time_fault (get_or ts 0 0) before) s p.next _ y e₁ (λ t e₂.
    zone_rest left s at i ps ts total before (omega arith) (omega arith) p t
    (zones_got left s t.next (i + 1) (set ps i p.value) (set ts i t.value) (total + p.value) t.value go y t.stands.inside
    (omega (arith, length-set ps i p.value)) (omega (arith, length-set ts i t.value)) e₂)))

-- the card s, each block on k positions, is accepted with the figures g, which the judge does not refuse, and is their card
pub record AcceptedWith (k : ℕ) (s : List ℕ) (g : Figures) : Type 0 where
  pub wide : Wide g
  pub clear : record_fault k g ≡ 0
  pub same : s ≡ card_of g
  pub whole : read_card k s ≡ record { verdict = accepted; figures = g }

-- the same, with the figures that it answers
abbrev pub AcceptedCard : ℕ → List ℕ → Type 0
AcceptedCard k s = AcceptedWith k s (read_card k s).figures

-- the parts that are read one after the other are the whole card
module _ (k : ℕ) (s : List ℕ) (d : Got (fault_of Kind 0) s 0) (z : Got (fault_of Zones 0) s d.next)
    (r : ZonesRest z.value s z.next 0 blank_zones blank_zones 0 max_time) (m : FilmRest k s r.next r.all) (o : TableRest d.value s m.next) where
  abbrev figures_read : Figures
  figures_read =
      figures_from (scalars_of d.value z.value m.films m.blocks m.bytes m.rate) r.positions r.times o.table

  accepted_parts : (card_end s o.next figures_read).verdict.number ≡ 0 → AcceptedWith k s figures_read
  unfolding read_card card_of numbers_of
  accepted_parts e =
      let end = end_got s o.next figures_read o.inside e in
      let film = m.ahead d.value z.value r.positions r.times o.table (o.ahead end.1) in
      record {
        wide = (sym r.placed.long ∙ blank_long, sym r.timed.long ∙ blank_long, m.long, o.long);
        clear = judged_fault k figures_read (record {
          kind = kind_range 0 d.value d.clear;
          zones = zones_range 0 z.value z.clear;
          unused = λ i l. (sym (r.placed.high i (omega arith)) ∙ blank_at i, sym (r.timed.high i (omega arith)) ∙ blank_at i);
          faults = r.faults k _ o.table (m.faults d.value z.value r.positions r.times o.table o.faults);
        });
        same = (ahead_more d.stands (ahead_more z.stands (r.ahead _ o.table film))).bytes;
        whole = got_goes (fault_of Kind 0) s 0 _ d ∙ got_goes (fault_of Zones 0) s d.next _ z ∙ r.is _ ∙ m.is _ ∙ o.is _ ∙ end.0;
      }

-- AN ACCEPTED CARD IS THE CARD OF ITS FIGURES
pub read_card_law : (k : ℕ) (s : List ℕ) → Bytes s → (read_card k s).verdict.number ≡ 0 → AcceptedCard k s
unfolding read_card
read_card_law k s y e =
    accepted_field (fault_of Kind 0) s 0 _ y e (λ d e₁.
    accepted_field (fault_of Zones 0) s d.next _ y e₁ (λ z e₂.
    by d z (zones_range 0 z.value z.clear) e₂))
  where
    -- the figures found are those of the answer
    answered : {g : Figures} → AcceptedWith k s g → AcceptedCard k s
    answered a = subst (AcceptedWith k s) (ap (λ (x : CardRead). x.figures) (sym a.whole)) a

    by : (d : Got (fault_of Kind 0) s 0) (z : Got (fault_of Zones 0) s d.next) → (1 ≤ z.value) × (z.value ≤ max_zones)
        → (zones_from z.value s z.next 0 blank_zones blank_zones 0 max_time (after_zones k s d.value z.value)).verdict.number ≡ 0 → AcceptedCard k s
    by d z few e =
        let fits : 0 + z.value ≤ length blank_zones = omega (arith, blank_long) in
        let r = zones_got z.value s z.next 0 blank_zones blank_zones 0 max_time _ y z.stands.inside fits fits e in
        let e₁ = still_accepted (r.is _) e in
        let m = film_got k s r.next r.all _ y e₁ in
        let e₂ = still_accepted (m.is _) e₁ in
        let o = table_got d.value s m.next _ y m.inside (kind_range 0 d.value d.clear) e₂ in
        answered (accepted_parts k s d z r m o (still_accepted (o.is _) e₂))

-- ---- the same of legal figures

-- THE CARD OF LEGAL FIGURES IS READ BACK
pub legal_read : (k : ℕ) (f : Figures) → Legal k f → read_card k (card_of f) ≡ record { verdict = accepted; figures = f }
legal_read k f l = card_read k f l.wide (legal_fault k f l)

-- an accepted card has legal figures
pub card_legal : (k : ℕ) (s : List ℕ) → Bytes s → (r : CardRead) → r ≡ read_card k s → r.verdict.number ≡ 0 → Legal k r.figures
card_legal k s y r e n =
    let a = read_card_law k s y (sym (ap (λ (x : CardRead). x.verdict.number) e) ∙ n) in
    subst (λ (x : CardRead). Legal k x.figures) (sym e) (fault_legal k (read_card k s).figures a.wide a.clear)

-- the writer puts the card of figures that are not refused in front of what stood past it
pub written : (g : Figures) (out : List ℕ) → record_fault 1 g ≡ 0 → length (card_of g) ≤ length out
    → (written_card g out ≡ record { verdict = accepted; length = length (card_of g) }) × (buffer_after g out ≡ card_of g ++ drop (length (card_of g)) out)
unfolding written_card buffer_after write_fault first
written g out e h =
    let room : leb (length (card_of g)) (length out) ≡ true = le-leb (length (card_of g)) (length out) (omega arith) in
    (rw (e, room), rw (e, room))

-- ---- a refused card

-- A REFUSED CARD ANSWERS NO FIGURES
pub refused_blank : (j : ℕ) (s : List ℕ) (k : ℕ) → (read_card j s).verdict.number ≡ suc k → (read_card j s).figures ≡ blank_figures
refused_blank j s = read_holds (λ r. (k : ℕ) → r.verdict.number ≡ suc k → r.figures ≡ blank_figures) (λ k. Unit {0}) (record {
  accepts = λ f k e. absurd (omega arith);
  refuses = λ number at o. unfold refused_card in λ k e. refl;
  ends = tt;
  form = tt;
  over = tt;
  rule = λ u bound v. tt;
  time = λ innermost before v. tt;
  blocks = λ k total sofar v. tt;
}) j s
