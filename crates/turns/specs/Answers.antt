-- An answer of the rules: what an accepted call makes, what a refused one leaves; one list of calls after the other.
-- Assumes nothing.
use Prim.Native.Nat.{ℕ, zero, suc, ◌<◌}
use Rattle.std.specs.Prelude.{◌≡◌}
use Rattle.std.proofs.Math.Path.{refl}
use mathlib.Core.List.{List, [], ◌∷◌, ◌++◌}
use Rattle.std.proofs.Common.{arith}
use Rattle.rules.specs.Supply.{Supply}
use Rattle.rules.specs.Scheduler.{Call, join, leave, begin, end}
use Rattle.rules.specs.Order.{Scheduler, Order}
use Rattle.rules.specs.Ledger.{recorded}
use Rattle.rules.specs.Calls.{State, Rules, is_accepted, accepted, refused, answer_by, answer, turn, after}

module _ {A Q X : Type 0} (p : Supply A) (o : Order A Q) (u : Rules A Q X) where
  -- one list after the other, and a list that ends with x
  pub after_append : (v : State A Q) (xs ys : List X) → after p o u v (xs ++ ys) ≡ after p o u (after p o u v xs) ys
  unfolding after
  after_append v [] ys = refl
  after_append v (x ∷ xs) ys = after_append (turn p o u v x) xs ys

  pub after_last : (v : State A Q) (xs : List X) (x : X) → after p o u v (xs ++ (x ∷ [])) ≡ turn p o u (after p o u v xs) x
  unfolding after
  after_last v xs x = after_append v xs (x ∷ [])

  pub accepted_zero : (d : Scheduler A Q) (c : Call A) → (accepted p o d c).number ≡ 0
  unfolding accepted
  accepted_zero d (join i b) = refl
  accepted_zero d (leave i) = refl
  accepted_zero d begin = refl
  accepted_zero d (end ds) = refl

  -- an answer with number 0 is what the rules make of an accepted call; any other carries the scheduler that was given
  pub verdict_zero : (d : Scheduler A Q) (x : X) → (answer p o u d x).number ≡ 0 → (u.verdict d x).number ≡ 0
  unfolding answer
  verdict_zero d x e = go (u.verdict d x).number e
    where
      go : (k : ℕ) → (answer_by p o u k (u.verdict d x).place d x).number ≡ 0 → k ≡ 0
      go zero e = refl
      go (suc k) e = absurd (omega arith)

  pub answer_accepted : (d : Scheduler A Q) (x : X) → (u.verdict d x).number ≡ 0 → answer p o u d x ≡ accepted p o d (u.move x)
  unfolding answer
  answer_accepted d x e = rw e

  pub answer_refused : (d : Scheduler A Q) (x : X) (k i : ℕ) → 0 < k → u.verdict d x ≡ record { number = k; place = i } → answer p o u d x ≡ refused p o d k i
  unfolding answer
  answer_refused d x k i h e = rw e (go k h)
    where
      go : (k : ℕ) → 0 < k → answer_by p o u k i d x ≡ refused p o d k i
      go zero l = absurd (omega arith)
      go (suc k) l = refl

  -- the answer's number is the verdict's
  pub answer_number : (d : Scheduler A Q) (x : X) → (answer p o u d x).number ≡ (u.verdict d x).number
  unfolding answer
  answer_number d x = go (u.verdict d x).number
    where
      go : (k : ℕ) → (answer_by p o u k (u.verdict d x).place d x).number ≡ k
      go zero = accepted_zero d (u.move x)
      go (suc k) = refl

  -- a refused call changes nothing, neither the scheduler nor the ledger, and it answers no entries and bound 0
  pub refused_changes_nothing : (v : State A Q) (x : X) → 0 < (answer p o u v.scheduler x).number
      → (turn p o u v x ≡ v) × ((answer p o u v.scheduler x).entries ≡ []) × ((answer p o u v.scheduler x).bound ≡ 0)
  unfolding turn answer recorded
  refused_changes_nothing v x h = go (u.verdict v.scheduler x).number h
    where
      go : (k : ℕ) → 0 < (answer_by p o u k (u.verdict v.scheduler x).place v.scheduler x).number
          → (let a = answer_by p o u k (u.verdict v.scheduler x).place v.scheduler x in
          (◌≡◌ {A = State A Q} (record { scheduler = a.scheduler; ledger = recorded p.B v.ledger (u.move x) (is_accepted a.number) a.entries }) v)
          × (a.entries ≡ []) × (a.bound ≡ 0))
      go zero l = absurd (omega (arith, accepted_zero v.scheduler (u.move x)))
      go (suc k) l = (refl, refl, refl)
