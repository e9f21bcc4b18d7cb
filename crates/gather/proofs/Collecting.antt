-- One turn of the loop that collects the next blocks of the slots.
-- Assumes nothing.
use Prim.Native.Nat.{ℕ, ◌+◌, ◌≤◌, ◌<◌}
use mathlib.Core.Path.{◌≡◌, sym, ap, ◌∙◌, subst}
use mathlib.Core.Logic.{◌≢◌}
use mathlib.Core.List.{List}
use native.Mathlib.Omega.{arith}
use lib.ListN.{length, get_or, set, length-set}
use lib.Seq.{get_or-set_same, get_or-set_other}
use borrow.Author.Count.{below_more}
use Rattle.laws.specs.Each.{zero_at}
use Rattle.desk.specs.declared.Desk.{Desk}
use Rattle.desk.specs.Shown.{Gathered}
use Rattle.desk.specs.Desk.{zeros}
use Rattle.desk.specs.Slots.{length_zeros}
use Rattle.gather.specs.declared.Block.{Block}
use Rattle.gather.specs.Gather.{Nothing, NextFound, next_number, block_at, Collected}

-- the next blocks of the first i slots are collected, in three arrays of 256
pub record Collecting (d : Desk) (ps : List ℕ) (visits : ℕ) (ks : List ℕ) (n : ℕ) (g : Gathered) (i : ℕ) : Type 0 where
  pub few : i ≤ n
  pub long : length g.times ≡ 256
  pub wide : length g.positions ≡ 256
  pub broad : length g.others ≡ 256
  pub collected : Collected d ps visits ks i g

-- the block of slot i is stored; other slots keep theirs
unfoldable pub stored : Gathered → ℕ → Block → Gathered
stored g i b = record { times = set g.times i b.time; positions = set g.positions i b.position; others = set g.others i b.other }

module _ (d : Desk) (ps : List ℕ) (visits : ℕ) (ks : List ℕ) (n : ℕ) where
  -- what is found for slot i
  abbrev Finds : ℕ → Block → Type 0
  Finds i = NextFound d.plan.figures.positions d.plan.figures.times ps visits (get_or ks i 0) (next_number d i)

  pub collecting_none : (g : Gathered) → g.times ≡ zeros → g.positions ≡ zeros → g.others ≡ zeros → Collecting d ps visits ks n g 0
  unfolding zeros
  collecting_none g a b c =
      let zero : (vs : List ℕ) (i : ℕ) → vs ≡ zeros → get_or vs i 0 ≡ 0 = λ vs i e. ap (λ (v : List ℕ). get_or v i 0) e ∙ zero_at 256 i in
      record {
        few = omega arith;
        long = ap length a ∙ length_zeros;
        wide = ap length b ∙ length_zeros;
        broad = ap length c ∙ length_zeros;
        collected = record {
          found = λ i h. absurd (omega arith);
          rest = λ i h. record { time = zero g.times i a; position = zero g.positions i b; other = zero g.others i c };
        };
      }

  module _ (g : Gathered) (i : ℕ) (b : Block) (c : Collecting d ps visits ks n g i) where
    other : (j : ℕ) → j ≢ i → block_at (stored g i b) j ≡ block_at g j
    unfolding stored
    other j m = λ t. record {
      time = get_or-set_other g.times i j b.time 0 m t;
      position = get_or-set_other g.positions i j b.position 0 m t;
      other = get_or-set_other g.others i j b.other 0 m t;
    }

    own : i < 256 → block_at (stored g i b) i ≡ b
    unfolding stored
    own h = λ t. record {
      time = get_or-set_same g.times i b.time 0 (omega (arith, c.long)) t;
      position = get_or-set_same g.positions i b.position 0 (omega (arith, c.wide)) t;
      other = get_or-set_same g.others i b.other 0 (omega (arith, c.broad)) t;
    }

    pub collecting_next : i < n → i < 256 → Finds i b
        → Collecting d ps visits ks n (stored g i b) (i + 1)
    unfolding stored
    collecting_next l h f = record {
      few = omega arith;
      long = length-set g.times i b.time ∙ c.long;
      wide = length-set g.positions i b.position ∙ c.wide;
      broad = length-set g.others i b.other ∙ c.broad;
      collected = record {
        found = below_more _ i
            (λ j u. subst (Finds j) (sym (other j (λ e. omega arith))) (c.collected.found j u))
            (subst (Finds i) (sym (own h)) f);
        rest = λ j u. subst Nothing (sym (other j (λ e. omega arith))) (c.collected.rest j (omega arith));
      };
    }
