-- Document 02, ticket 5: the order of requests and how long one waits, in a list of calls as its caller sees it.
use Rattle.std.specs.Prelude.{ℕ, ◌+◌, ◌*◌, ◌-◌, ◌≤◌, ◌<◌, ◌≡◌, Bool, ◌&&◌, List, [], ◌∷◌, ◌++◌, get_or}
use Rattle.laws.specs.Bools.{bit}
use Rattle.numbers.specs.Slots.{waiting, filling}
use Rattle.plan.specs.declared.Plan.{Plan}
use Rattle.plan.specs.Plan.{showing_in, over_of}
use Rattle.rules.specs.Scheduler.{join, begin}
use Rattle.rules.specs.Calls.{is_accepted, is_end_call}
use Rattle.trace.specs.Safe.{Seen}

-- ---- G (T5.6)

module _ (p : Plan) where
  -- worst2 + twice the difference between the overhead for n blocks and that for n − 1
  unfoldable pub sweep_gain : ℕ
  sweep_gain = p.worst2 + 2 * (over_of (showing_in p) p.figures p.streams - over_of (showing_in p) p.figures (p.streams - 1))

  -- G is the least number with G times that at least margin
  pub record IsLeast (G : ℕ) : Type 0 where
    pub enough : p.margin ≤ G * sweep_gain
    pub least : (H : ℕ) → p.margin ≤ H * sweep_gain → G ≤ H

-- ---- a request in a list of calls; ys are the calls that follow xs

module _ {X : Type 0} (v : Seen X) where
  -- the place of slot i after a list, and that it asks
  abbrev pub place_at : List X → ℕ → ℕ
  place_at xs i = get_or (v.desk xs).places i 0

  abbrev pub Asks : List X → ℕ → Type 0
  Asks xs i = get_or (v.desk xs).kinds i 0 ≡ waiting

  -- slot i asks after each call of ys: its request stays, and is not granted yet
  abbrev pub Stays : ℕ → List X → List X → Type 0
  Stays i xs [] = Unit {0}
  Stays i xs (y ∷ ys) = Asks (xs ++ (y ∷ [])) i × Stays i (xs ++ (y ∷ [])) ys

  -- an accepted end finishes a sweep
  abbrev pub finishes : List X → X → Bool
  finishes xs y = is_accepted (v.number xs y) && is_end_call (v.move y)

  -- the finished sweeps of ys
  unfoldable pub finished : List X → List X → ℕ
  finished xs [] = 0
  finished xs (y ∷ ys) = bit (finishes xs y) + finished (xs ++ (y ∷ [])) ys

  -- GRANTED IN TIME (T5.7): slot i has place 1 after xs, its request stays through ys, and ys finish G sweeps; then an accepted begin x, the next
  -- call, grants it. One that becomes the eldest in a begin has place 1 after that call, so the end of that very sweep counts
  abbrev pub InTime : ℕ → Type 0
  InTime G =
      (xs ys : List X) (i : ℕ) → place_at xs i ≡ 1 → Stays i xs ys → G ≤ finished xs ys
      → (x : X) → v.move x ≡ begin → v.number (xs ++ ys) x ≡ 0 → get_or (v.desk ((xs ++ ys) ++ (x ∷ []))).kinds i 0 ≡ filling

  -- IN THE ORDER OF ASKING (T5.1, T5.3)
  pub record InAskingOrder : Type 0 where
    -- slot i asks after xs, and slot j joins by x, which is accepted; as long as both stay, slot i has the lower place
    pub order : (xs ys : List X) (x : X) (i j b : ℕ) → Asks xs i → v.move x ≡ join j b → v.number xs x ≡ 0
        → Stays i xs (x ∷ ys) → Stays j xs (x ∷ ys) → place_at (xs ++ (x ∷ ys)) i < place_at (xs ++ (x ∷ ys)) j
    -- while a slot asks, one has place 1
    pub eldest : (xs : List X) (i : ℕ) → Asks xs i → (j : ℕ) × (place_at xs j ≡ 1)
