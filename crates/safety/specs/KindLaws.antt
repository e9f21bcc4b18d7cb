-- The scheduler gives each slot the kind that the rules give it, told slot by slot (Kinds).
-- Assumes nothing.
use Prim.Native.Nat.{ℕ, ◌+◌, ◌-◌, ◌<◌}
use Rattle.std.specs.Prelude.{◌≡◌, ◌&&◌, List, length, get_or, set, leb}
use Rattle.std.proofs.Math.Path.{refl, ap}
use Rattle.std.proofs.Common.{sym, ◌∙◌, arith, add-zero, get_or-set_same, get_or-set_other, leb-true, leb-false, eq-eqb, ne_eqb}
use Rattle.std.proofs.Math.Logic.{by_cases}
use Rattle.std.proofs.Math.Bool.{Bool, true, false, cond}
use Rattle.std.proofs.Math.Decide.{ℕ_discrete}
use Rattle.std.proofs.Math.Dec.{eqb}
use Rattle.rules.specs.Supply.{Supply}
use Rattle.numbers.specs.Slots.{free, waiting, filling, playing, draining}
use Rattle.rules.specs.Scheduler.{Slot, Call, join, leave, begin, end, free_slot, waiting_slot, at}
use Rattle.rules.specs.Scheduler.{holds, joined, left, start_by, started_slot, started, is_fetched}
use Rattle.rules.specs.Scheduler.{swept_by, release_by, released, ended_slot}
use Rattle.rules.specs.Order.{Scheduler, by_place}
use Rattle.rules.specs.Calls.{accepted}
use Rattle.rules.specs.Kinds.{start_mark, grant_count, begun_kind, ended_kind, kind_after}
use Rattle.turns.specs.Facts.{Sound}
use Rattle.turns.specs.Turns.{started_at, ended_at}
use Rattle.turns.specs.Places.{Places}
use Rattle.turns.specs.ByPlace.{queue_places}
use Rattle.turns.specs.Served.{GrantedTo, begun_is}

module _ {A : Type 0} (p : Supply A) where
  -- ---- begin

  abbrev kind_of : Slot A → ℕ
  kind_of s = s.kind

  started_kind : (x : ℕ) (s : Slot A) → (started_slot p x s).kind ≡ cond (eqb s.kind filling && holds p x s) playing s.kind
  unfolding started_slot
  started_kind x s = go (eqb s.kind filling && holds p x s)
    where
      go : (t : Bool) → (start_by p t s).kind ≡ cond t playing s.kind
      go true = refl
      go false = refl

  begin_kind : (ss : List (Slot A)) (q : List ℕ) (i : ℕ) → Places p ss q → (at p ((by_place p).begins q ss).slots i).kind ≡ begun_kind p ss q i
  unfolding begun_kind
  begin_kind ss q i h =
      by_cases (ℕ_discrete s.kind waiting) (λ k. rw k (asked k (leb (get_or q i 0) n) refl))
      (λ k. still (λ u. absurd (omega (arith, h.idle i k))) ∙ rw (ne_eqb s.kind waiting k))
    where
      s : Slot A
      s = at p ss i

      x : ℕ
      x = start_mark p ss q

      n : ℕ
      n = grant_count p ss q

      ts : List (Slot A)
      ts = ((by_place p).begins q ss).slots

      g : (M : ℕ) × GrantedTo p (started p x ss) q n ts M
      g = (begun_is p ss q h).0

      -- one that is not granted is as it started
      still : (0 < get_or q i 0 → n < get_or q i 0) → (at p ts i).kind ≡ cond (eqb s.kind filling && holds p x s) playing s.kind
      still u = ap kind_of (g.1.kept i u ∙ started_at p x ss i) ∙ started_kind x s

      asked : s.kind ≡ waiting → (t : Bool) → leb (get_or q i 0) n ≡ t → (at p ts i).kind ≡ cond t filling waiting
      asked k true e = g.1.done i (h.named i k) (leb-true (get_or q i 0) n e)
      asked k false e = let r = still (λ u. leb-false (get_or q i 0) n e) in rw k at r

  -- ---- end

  released_kind : (s : Slot A) → (released p s).kind ≡ cond (eqb s.kind draining && eqb s.buffered 0) free s.kind
  unfolding released
  released_kind s = go (eqb s.kind draining && eqb s.buffered 0)
    where
      go : (t : Bool) → (release_by p t s).kind ≡ cond t free s.kind
      go true = refl
      go false = refl

  end_kind : (s : Slot A) (d : ℕ) → (ended_slot p s d).kind ≡ ended_kind p s d
  unfolding ended_slot swept_by ended_kind
  end_kind s d = go (is_fetched p s)
    where
      kind : Bool → ℕ
      kind f = cond (f && p.is_end (p.next s.next)) draining s.kind

      go : (f : Bool)
          → (released p (swept_by p f s d)).kind ≡ cond (eqb (kind f) draining && eqb (s.buffered - d + cond f p.B 0) 0) free (kind f)
      go true = released_kind (swept_by p true s d)
      go false = rw (add-zero (s.buffered - d)) (released_kind (swept_by p false s d))

  -- ---- the kind of each slot after an accepted call is the rules'

  set_kind : (ss : List (Slot A)) (i j : ℕ) (a : Slot A) → i < length ss → (at p (set ss j a) i).kind ≡ cond (eqb i j) a.kind (at p ss i).kind
  set_kind ss i j a l = go (ℕ_discrete i j)
    where
      go : Dec (i ≡ j) → (at p (set ss j a) i).kind ≡ cond (eqb i j) a.kind (at p ss i).kind
      go (yes e) = rw (eq-eqb i j e, sym e) (ap kind_of (get_or-set_same ss i a (free_slot p) l))
      go (no n) = rw (ne_eqb i j n) (ap kind_of (get_or-set_other ss j i a (free_slot p) n))

  -- over a sound record, whose places are 1 up to the number of requests
  pub kinds_by_rules : (d : Scheduler A (List ℕ)) (c : Call A) (i : ℕ) → Sound p (by_place p) d → i < length d.slots
      → (at p (accepted p (by_place p) d c).scheduler.slots i).kind ≡ kind_after p d c i
  unfolding accepted joined left kind_after
  kinds_by_rules d (join j b) i h l = set_kind d.slots i j (waiting_slot p b) l
  kinds_by_rules d (leave j) i h l = set_kind d.slots i j (free_slot p) l
  kinds_by_rules d begin i h l = begin_kind d.slots d.queue i (queue_places p d.queue d.slots h.queue)
  kinds_by_rules d (end ds) i h l = ap kind_of (ended_at p d.slots ds i l) ∙ end_kind (at p d.slots i) (get_or ds i 0)
