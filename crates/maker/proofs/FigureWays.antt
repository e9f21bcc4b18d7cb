-- Each way that the judge of a text's figures can take, the zones of the rows, and what a value of 32 bits changes: nothing.
-- Assumes nothing.
use Prim.Native.Nat.{ℕ, zero, suc, ◌+◌, ◌-◌, ◌≤◌, ◌<◌}
use mathlib.Core.Path.{◌≡◌, refl, sym, ap, ap₂, ◌∙◌}
use mathlib.Core.List.{List, [], ◌∷◌, ◌++◌, append_assoc}
use native.Mathlib.Omega.{arith}
use lib.ListN.{length, replicate, set, take, drop, length-set, take-append-drop}
use lib.Seq.{take-suc-set, drop-set-lt}
use Rattle.numbers.specs.Limits.{max_zones}
use Rattle.card.specs.declared.Figures.{Figures}
use Rattle.card.specs.declared.Verdict.{Verdict}
use Rattle.card.specs.Card.{record_fault, judge_record}
use Rattle.card.specs.Read.{accepted, blank_zones}
use Rattle.maker.specs.declared.MakerRead.{MakerRead}
use Rattle.maker.specs.Maker.{padded, refused_text, answered, judged_figures}
use Rattle.maker_rows.specs.Kept.{back_by}

-- ---- the judge

module _ (f : Figures) (v : Verdict) (judged : v ≡ judge_record 1 f) where
  pub figures_refused : (v.number ≡ 0 → ⊥) → refused_text v.number 0 ≡ judged_figures f
  unfolding judged_figures judge_record answered
  figures_refused n = go (record_fault 1 f) refl
    where
      same : v.number ≡ record_fault 1 f
      same = ap (λ (x : Verdict). x.number) judged

      go : (k : ℕ) → record_fault 1 f ≡ k → refused_text v.number 0 ≡ answered (record_fault 1 f) f
      go zero e = absurd (n (same ∙ e))
      go (suc k) e = rw e (ap (λ (x : ℕ). refused_text x 0) (same ∙ e))

  pub figures_accepted : v.number ≡ 0 → ◌≡◌ {A = MakerRead} (record { verdict = v; figures = f }) (judged_figures f)
  unfolding judged_figures judge_record answered
  figures_accepted e =
      let none : record_fault 1 f ≡ 0 = ap (λ (x : Verdict). x.number) (sym judged) ∙ e in
      let fine : v ≡ accepted = judged ∙ ap (λ (k : ℕ). record { number = k; place = 0 }) none in
      ap (λ (x : Verdict). record { verdict = x; figures = f }) fine ∙ ap (λ (k : ℕ). answered k f) (sym none)

-- ---- the zones of the rows

back_long : (n : ℕ) (g : ℕ → ℕ) → length (back_by n g) ≡ n
unfolding back_by
back_long zero g = refl
back_long (suc n) g = ap suc (back_long n g)

back_next : (k : ℕ) → 0 < k → (g : ℕ → ℕ) (v : ℕ) → v ≡ g (k - 1) → v ∷ back_by (k - 1) g ≡ back_by k g
unfolding back_by
back_next zero p g v q = absurd (omega arith)
back_next (suc k) p g v q =
    let less : suc k - 1 ≡ k = omega arith in
    ap₂ (λ (x n : ℕ). x ∷ back_by n g) (q ∙ ap g less) less

-- i entries are written, the others are still to write: g at n - 1 - i, n - 2 - i, .. 0
pub record Building (n : ℕ) (g : ℕ → ℕ) (ps : List ℕ) (i : ℕ) : Type 0 where
  pub wide : length ps ≡ max_zones
  pub whole : take i ps ++ (back_by (n - i) g ++ drop n ps) ≡ padded (back_by n g)

pub build_start : (n : ℕ) (g : ℕ → ℕ) (ps : List ℕ) → ps ≡ replicate max_zones 0 → Building n g ps 0
unfolding padded blank_zones
build_start n g ps e = let all : n - 0 ≡ n = omega arith in record { wide = ap length e; whole = rw (all, e, back_long n g) }

module _ (n : ℕ) (g : ℕ → ℕ) (ps : List ℕ) (i : ℕ) (b : Building n g ps i) where
  pub build_more : i < n → n ≤ max_zones → (v : ℕ) → v ≡ g (n - 1 - i) → Building n g (set ps i v) (i + 1)
  build_more h m v e = record {
    wide = length-set ps i v ∙ b.wide;
    whole = rw (first, later, rest)
        (append_assoc (take i ps) (v ∷ []) (back_by (n - suc i) g ++ drop n ps) ∙ ap (λ (x : List ℕ). take i ps ++ (x ++ drop n ps)) front)
        ∙ b.whole;
  }
    where
      first : i + 1 ≡ suc i
      first = omega arith

      later : take (suc i) (set ps i v) ≡ take i ps ++ (v ∷ [])
      later = take-suc-set ps i v (omega (arith, b.wide))

      rest : drop n (set ps i v) ≡ drop n ps
      rest = drop-set-lt n ps i v h

      less : n - suc i ≡ n - i - 1
      less = omega arith

      place : n - 1 - i ≡ n - i - 1
      place = omega arith

      front : v ∷ back_by (n - suc i) g ≡ back_by (n - i) g
      front = ap (λ (k : ℕ). v ∷ back_by k g) less ∙ back_next (n - i) (omega arith) g v (e ∙ ap g place)

  pub build_end : i ≡ n → ps ≡ padded (back_by n g)
  unfolding back_by
  build_end e =
      let none : n - i ≡ 0 = omega arith in
      let all : take i ps ++ drop n ps ≡ padded (back_by n g) = rw none at b.whole in
      sym (take-append-drop n ps) ∙ ap (λ (k : ℕ). take k ps ++ drop n ps) (sym e) ∙ all
