-- An accepted call keeps the ledger in step with the slots, line by line.
-- Assumes nothing.
use Prim.Native.Nat.{ℕ, zero, suc, ◌+◌, ◌*◌, ◌-◌, ◌/◌, ◌≤◌, ◌<◌}
use Rattle.std.specs.Prelude.{◌≡◌, Bool, ◌&&◌, ◌||◌, set, leb, ltb}
use Rattle.std.proofs.Math.Path.{refl, sym}
use Rattle.std.proofs.Common.{◌∙◌, arith}
use Rattle.std.proofs.Math.Logic.{by_cases}
use Rattle.std.proofs.Math.Bool.{true, false, cond, or-false}
use mathlib.Core.List.{List, [], ◌∷◌, ◌++◌}
use Rattle.std.proofs.Math.Decide.{dec_lt, ℕ_discrete}
use Rattle.std.proofs.Math.Nat.{mul-pos}
use Rattle.std.proofs.Math.ListN.{get_or}
use Rattle.std.proofs.Math.Dec.{eqb}
use borrow.Author.Tests.{leb-true, ltb-true, ltb-false, eqb-true, eq-eqb, ne_eqb, lt-ltb, le-ltb, le-leb}
use Rattle.laws.specs.Bools.{bit, clash, and_left, and_right, and_both, bool_ext}
use Rattle.laws.specs.Map.{map_from}
use Rattle.laws.specs.Each.{Each, Both, both_set, both_at}
use Rattle.numbers.specs.Units.{micros}
use Rattle.rules.specs.Supply.{Supply, Lawful}
use Rattle.numbers.specs.Slots.{draining, sweeping}
use Rattle.rules.specs.Scheduler.{Slot, Entry, Call, join, leave, begin, end, free_slot, waiting_slot, at}
use Rattle.rules.specs.Scheduler.{before, insert, sorted, entries_at, low_water, joined, left, is_fetched, entries_from, entries}
use Rattle.rules.specs.Scheduler.{leads, times, fetch_count, bound, swept_by, release_by, released, ended_slot, ended, most_drawn}
use Rattle.rules.specs.Order.{Scheduler, Order}
use Rattle.turns.specs.Facts.{Good, Sound}
use Rattle.turns.specs.Orderly.{Kept, Orderly}
use Rattle.turns.specs.Slots.{fetched_kind, fetched_other}
use Rattle.rules.specs.Ledger.{Line, blank, line_at, opened_line, close_by, is_named, marked_line, drawn_line, settled_line, recorded}
use Rattle.rules.specs.Calls.{Allowed, accepted}
use Rattle.turns.specs.Sweeps.{Drawable, Drawables, drawables_of, fetches_le}
use Rattle.safety.specs.Safety.{Swept, swept_of_law, leads_after_law, leads_le}

-- ---- whom the entries name

-- sorting keeps it
named_insert : (i : ℕ) (e : Entry) (es : List Entry) → is_named i (insert e es) ≡ (eqb i e.slot || is_named i es)
unfolding is_named insert
named_insert i e [] = refl
named_insert i e (f ∷ fs) = go (before e f) (named_insert i e fs)
  where
    swap : (a b c : Bool) → (a || (b || c)) ≡ (b || (a || c))
    swap true true c = refl
    swap true false c = refl
    swap false b c = refl

    go : (t : Bool) → is_named i (insert e fs) ≡ (eqb i e.slot || is_named i fs)
        → is_named i (cond t (e ∷ f ∷ fs) (f ∷ insert e fs)) ≡ (eqb i e.slot || (eqb i f.slot || is_named i fs))
    go true ih = refl
    go false ih = rw ih (swap (eqb i f.slot) (eqb i e.slot) (is_named i fs))

pub named_sorted : (i : ℕ) (es : List Entry) → is_named i (sorted es) ≡ is_named i es
unfolding is_named sorted
named_sorted i [] = refl
named_sorted i (e ∷ es) = rw (named_insert i e (sorted es), named_sorted i es)

named_append : (i : ℕ) (es fs : List Entry) → is_named i (es ++ fs) ≡ (is_named i es || is_named i fs)
unfolding is_named
named_append i [] fs = refl
named_append i (e ∷ es) fs = rw (named_append i es fs) (assoc (eqb i e.slot) (is_named i es) (is_named i fs))
  where
    assoc : (a b c : Bool) → (a || (b || c)) ≡ ((a || b) || c)
    assoc true b c = refl
    assoc false b c = refl

-- the entries of slot i name i and nobody else
named_other : (i j b : ℕ) (qs : List ℕ) → eqb j i ≡ false → is_named j (entries_at i b qs) ≡ false
unfolding is_named entries_at
named_other i j b [] h = refl
named_other i j b (q ∷ qs) h = rw (h, named_other i j b qs h)

named_self : (i b q : ℕ) (qs : List ℕ) → is_named i (entries_at i b (q ∷ qs)) ≡ true
unfolding is_named entries_at
named_self i b q qs = rw (eq-eqb i i refl)

module _ {A : Type 0} (p : Supply A) where
  abbrev visits_of : ℕ → Slot A → List Entry
  visits_of i s = entries_at i (p.number s.next) (p.position s.next ∷ p.others s.next)

  named_below : (i j : ℕ) (ss : List (Slot A)) → i < j → is_named i (entries_from p j ss) ≡ false
  unfolding entries_from is_named
  named_below i j [] h = refl
  named_below i j (s ∷ ss) h = go (is_fetched p s) (named_below i (suc j) ss (omega arith))
    where
      go : (t : Bool) → is_named i (entries_from p (suc j) ss) ≡ false → is_named i (cond t (visits_of j s) [] ++ entries_from p (suc j) ss) ≡ false
      go true ih =
          rw (
            named_append i (visits_of j s) (entries_from p (suc j) ss),
            named_other j i (p.number s.next) (p.position s.next ∷ p.others s.next) (ne_eqb i j (λ e. omega arith)),
            ih,
          )
      go false ih = ih

  -- just the slots that are fetched for
  named_head : (i : ℕ) (s : Slot A) (ss : List (Slot A)) → is_named i (entries_from p i (s ∷ ss)) ≡ is_fetched p s
  unfolding entries_from is_named
  named_head i s ss = go (is_fetched p s)
    where
      go : (t : Bool) → is_named i (cond t (visits_of i s) [] ++ entries_from p (suc i) ss) ≡ t
      go true =
          rw (
            named_append i (visits_of i s) (entries_from p (suc i) ss),
            named_self i (p.number s.next) (p.position s.next) (p.others s.next),
          )
      go false = named_below i (suc i) ss (omega arith)

  named_tail : (i j : ℕ) (s : Slot A) (ss : List (Slot A)) → i < j → is_named j (entries_from p i (s ∷ ss)) ≡ is_named j (entries_from p (suc i) ss)
  unfolding entries_from is_named
  named_tail i j s ss h = go (is_fetched p s)
    where
      go : (t : Bool) → is_named j (cond t (visits_of i s) [] ++ entries_from p (suc i) ss) ≡ is_named j (entries_from p (suc i) ss)
      go true =
          rw (
            named_append j (visits_of i s) (entries_from p (suc i) ss),
            named_other i j (p.number s.next) (p.position s.next ∷ p.others s.next) (ne_eqb j i (λ e. omega arith)),
          )
      go false = refl

  -- ---- a slot and its line; the flag says whether a sweep is on

  pub record Agree (sweep : Bool) (s : Slot A) (l : Line) : Type 0 where
    pub opens : l.is_open ≡ ltb 0 s.kind
    pub sums : l.is_open ≡ true → s.buffered + l.consumed ≡ l.fetched * p.B
    -- nothing was drawn before it plays
    pub quiet : l.is_open ≡ true → s.kind < 3 → l.consumed ≡ 0
    pub marks : l.marked ≡ (sweep && is_fetched p s)

  pub agree_free : (sweep : Bool) → Agree sweep (free_slot p) blank
  agree_free sweep = record { opens = refl; sums = λ z. clash z refl; quiet = λ z. clash z refl; marks = go sweep }
    where
      go : (t : Bool) → false ≡ (t && is_fetched p (free_slot p))
      go true = sym (fetched_other p (free_slot p) (λ a b. omega arith))
      go false = refl

  -- ---- begin

  kept_opens : (s t : Slot A) → Kept s t → ltb 0 t.kind ≡ ltb 0 s.kind
  kept_opens s t k = go (ltb 0 s.kind) refl
    where
      go : (x : Bool) → ltb 0 s.kind ≡ x → ltb 0 t.kind ≡ x
      go true e = lt-ltb 0 t.kind (omega (arith, ltb-true 0 s.kind e, k.rises))
      go false e = le-ltb 0 t.kind (omega (arith, ltb-false 0 s.kind e, k.occupied))

  lines_begun : (i : ℕ) (es : List Entry) (ss ts : List (Slot A)) (ls : List Line) → ((j : ℕ) → i ≤ j → is_named j es ≡ is_named j (entries_from p i ts))
      → Both Kept ss ts → Both (Agree false) ss ls → Both (Agree true) ts (map_from (marked_line es) i ls)
  unfolding map_from marked_line
  lines_begun i es [] [] [] h k b = tt
  lines_begun i es [] [] (l ∷ ls) h k b = absurd b
  lines_begun i es [] (t ∷ ts) ls h k b = absurd k
  lines_begun i es (s ∷ ss) [] ls h k b = absurd k
  lines_begun i es (s ∷ ss) (t ∷ ts) [] h k b = absurd b
  lines_begun i es (s ∷ ss) (t ∷ ts) (l ∷ ls) h k b = (
    record {
      opens = b.0.opens ∙ sym (kept_opens s t k.0);
      sums = λ o. omega (arith, b.0.sums o, k.0.buffered);
      quiet = λ o q. b.0.quiet o (omega (arith, k.0.rises));
      marks = rw b.0.marks (or-false (is_named i es) ∙ h i (omega arith) ∙ named_head i t ts);
    },
    lines_begun (suc i) es ss ts ls (λ j q. h j (omega arith) ∙ named_tail i j t ts q) k.1 b.1,
  )

  -- ---- end

  pos_left : (a b : ℕ) → 0 < a * b → 0 < a
  pos_left zero b h = absurd (omega arith)
  pos_left (suc a) b h = omega arith

  -- a slot and its line after the sweep, before either closes
  record SweptLine (s : Slot A) (l : Line) : Type 0 where
    opens : l.is_open ≡ ltb 0 s.kind
    sums : l.is_open ≡ true → s.buffered + l.consumed ≡ l.fetched * p.B
    quiet : l.is_open ≡ true → s.kind < 3 → l.consumed ≡ 0
    unmarked : l.marked ≡ false
    once : s.kind ≡ draining → 0 < l.fetched

  module _ (ok : Lawful p) where
    -- the scheduler's test for closing and the ledger's agree
    close_same : (L : ℕ) (s : Slot A) (l : Line) → Swept p ok L s → SweptLine s l
        → (l.is_open && (leb 1 l.fetched && eqb (l.fetched * p.B) l.consumed)) ≡ (eqb s.kind draining && eqb s.buffered 0)
    unfolding low_water
    close_same L s l w m = bool_ext _ _ to from
      where
        to : (l.is_open && (leb 1 l.fetched && eqb (l.fetched * p.B) l.consumed)) ≡ true → (eqb s.kind draining && eqb s.buffered 0) ≡ true
        to e =
            let o = and_left l.is_open _ e in
            let rest = and_right l.is_open _ e in
            let f = leb-true 1 l.fetched (and_left (leb 1 l.fetched) _ rest) in
            let q = eqb-true (l.fetched * p.B) l.consumed (and_right (leb 1 l.fetched) _ rest) in
            let full : 0 < l.fetched * p.B = mul-pos f ok.some_bytes in
            let sum = m.sums o in
            by_cases (dec_lt s.kind 3) (λ k. absurd (omega (arith, m.quiet o k)))
            (λ k. by_cases (ℕ_discrete s.kind 3) (λ x. absurd (omega (arith, w.floored x, ok.some_bytes)))
            (λ x. and_both (eq-eqb s.kind draining (omega (arith, w.kinds))) (eq-eqb s.buffered 0 (omega arith))))

        from : (eqb s.kind draining && eqb s.buffered 0) ≡ true → (l.is_open && (leb 1 l.fetched && eqb (l.fetched * p.B) l.consumed)) ≡ true
        from e =
            let k = eqb-true s.kind draining (and_left (eqb s.kind draining) _ e) in
            let h = eqb-true s.buffered 0 (and_right (eqb s.kind draining) _ e) in
            let o : l.is_open ≡ true = m.opens ∙ lt-ltb 0 s.kind (omega arith) in
            and_both o (and_both (le-leb 1 l.fetched (m.once k)) (eq-eqb (l.fetched * p.B) l.consumed (omega (arith, m.sums o))))

    settled_agrees : (L : ℕ) (s : Slot A) (l : Line) → Swept p ok L s → SweptLine s l → Agree false (released p s) (settled_line p.B l)
    unfolding released settled_line
    settled_agrees L s l w m = rw (close_same L s l w m) (go (eqb s.kind draining && eqb s.buffered 0))
      where
        go : (t : Bool) → Agree false (release_by p t s) (close_by t l)
        go true = record { opens = refl; sums = λ z. clash z refl; quiet = λ z. clash z refl; marks = m.unmarked }
        go false = record { opens = m.opens; sums = m.sums; quiet = m.quiet; marks = m.unmarked }

    swept_line : (L m : ℕ) (s : Slot A) (l : Line) (d : ℕ) → Good p L s → Agree true s l → Drawable p m s d
        → SweptLine (swept_by p (is_fetched p s) s d) (drawn_line l d)
    unfolding swept_by drawn_line
    swept_line L m s l d g r w = rw r.marks (go (is_fetched p s) refl)
      where
        last : (t : Bool) → is_fetched p s ≡ true → l.is_open ≡ true
            → SweptLine (record { kind = cond t draining s.kind; next = p.next s.next; buffered = s.buffered - d + p.B })
            (record { is_open = true; fetched = l.fetched + 1; consumed = l.consumed + d; marked = false })
        last true f o =
            let q = fetched_kind p s f in
            record {
              opens = refl;
              sums = λ _. omega (arith, r.sums o, w.held);
              quiet = λ _ y. absurd (omega arith);
              unmarked = refl;
              once = λ _. omega arith;
            }
        last false f o =
            let q = fetched_kind p s f in
            record {
              opens = sym (lt-ltb 0 s.kind (omega arith));
              sums = λ _. omega (arith, r.sums o, w.held);
              quiet = λ _ y. omega (arith, r.quiet o y, w.still y);
              unmarked = refl;
              once = λ _. omega arith;
            }

        go : (f : Bool) → is_fetched p s ≡ f
            → SweptLine (swept_by p f s d) (record {
              is_open = l.is_open;
              fetched = l.fetched + bit f;
              consumed = l.consumed + cond l.is_open d 0;
              marked = false;
            })
        go true f =
            let q = fetched_kind p s f in
            let o : l.is_open ≡ true = r.opens ∙ lt-ltb 0 s.kind (omega arith) in
            rw o (last (p.is_end (p.next s.next)) f o)
        go false f = record {
          opens = r.opens;
          sums = λ o. rw o (omega (arith, r.sums o, w.held));
          quiet = λ o z. rw o (omega (arith, r.quiet o z, w.still z));
          unmarked = refl;
          once = λ z. omega (
            arith,
            pos_left l.fetched p.B (omega (arith, g.some z, r.sums (r.opens ∙ lt-ltb 0 s.kind (omega arith)))),
          );
        }

    module _ (k T L M : ℕ) (few : k ≤ p.n) (paid : 2 * T + M ≤ L + k * p.pair_time) (top : L ≤ p.n * p.margin) where
      lines_ended : (i : ℕ) (ss : List (Slot A)) (ls : List Line) (ds : List ℕ) → Each (Good p L) ss → Both (Agree true) ss ls
          → Drawables p (p.c * (T + p.overhead k) / micros) ds i ss
          → Both (Agree false) (map_from (λ j s. ended_slot p s (get_or ds j 0)) i ss) (map_from (λ j l. settled_line p.B (drawn_line l (get_or ds j 0))) i ls)
      unfolding map_from ended_slot
      lines_ended i [] [] ds g b w = tt
      lines_ended i [] (l ∷ ls) ds g b w = absurd b
      lines_ended i (s ∷ ss) [] ds g b w = absurd b
      lines_ended i (s ∷ ss) (l ∷ ls) ds g b w =
          let d : ℕ = get_or ds i 0 in (
            settled_agrees M (swept_by p (is_fetched p s) s d) (drawn_line l d)
                (swept_of_law p ok k T L M few paid top s d g.0 w.0)
                (swept_line L (p.c * (T + p.overhead k) / micros) s l d g.0 b.0 w.0),
            lines_ended (suc i) ss ls ds g.1 b.1 w.1,
          )

    -- ---- every call

    no_sweep : (q : ℕ) → q ≡ 0 → eqb q 1 ≡ false
    no_sweep q e = ne_eqb q 1 (λ z. omega arith)

    -- a slot and a line are put in place of others
    lines_set : (ss : List (Slot A)) (ls : List Line) (i : ℕ) (a : Slot A) (l : Line) → Both (Agree false) ss ls
        → (Agree false (at p ss i) (line_at ls i) → Agree false a l) → Both (Agree false) (set ss i a) (set ls i l)
    lines_set ss ls i a l b r = both_set (Agree false) ss ls i a l b (r (both_at (Agree false) ss ls i (free_slot p) blank b (agree_free false)))

    module _ {Q : Type 0} (o : Order A Q) (orderly : Orderly p o) where
      abbrev pub Agrees : Scheduler A Q → List Line → Type 0
      Agrees d ls = Both (Agree (eqb d.phase sweeping)) d.slots ls

      -- an accepted call keeps the ledger in step
      pub recorded_keeps : (d : Scheduler A Q) (c : Call A) (ls : List Line) → Sound p o d → Allowed p o d c → Agrees d ls
          → Agrees (accepted p o d c).scheduler (recorded p.B ls c true (accepted p o d c).entries)
      unfolding accepted recorded joined left ended most_drawn bound entries is_fetched
      recorded_keeps d (join i b) ls h a r =
          lines_set d.slots ls i (waiting_slot p b) (opened_line (line_at ls i)) (rw (no_sweep d.phase a.0) at r)
          (λ q. record { opens = refl; sums = λ _. omega arith; quiet = λ _ _. refl; marks = q.marks })
      recorded_keeps d (leave i) ls h a r =
          lines_set d.slots ls i (free_slot p) (close_by true (line_at ls i)) (rw (no_sweep d.phase a.0) at r)
          (λ q. record { opens = refl; sums = λ z. clash z refl; quiet = λ z. clash z refl; marks = q.marks })
      recorded_keeps d begin ls h a r =
          let ss = d.slots in
          let ts = (o.begins d.queue ss).slots in
          lines_begun 0 _ ss ts ls (λ j _. named_sorted j (entries_from p 0 ts)) (orderly.began d.queue ss h.slots).kept
          (rw (no_sweep d.phase a) at r)
      recorded_keeps d (end ds) ls h a r =
          let ss = d.slots in
          let m : ℕ = most_drawn p ss in
          lines_ended (fetch_count p ss) (times p ss) (leads p ss) (leads p (ended p ss ds)) (fetches_le p p.n ss h.unused)
          (leads_after_law p ok (leads p ss) ss ds h.slots) (leads_le p ok (leads p ss) p.n ss h.slots h.unused) 0 ss ls ds h.slots
          (rw (eq-eqb d.phase sweeping a.0) at r) (drawables_of p m ds 0 ss a.2 a.3)
