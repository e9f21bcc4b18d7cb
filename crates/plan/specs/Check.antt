-- What a passed check says, and that the planner's own answers pass it.
-- Assumes nothing.
use Rattle.std.specs.Prelude.{ℕ, ◌+◌, ◌*◌, ◌≤◌, ◌<◌, ◌≡◌, refl, Bool, true, false, cond, List, length, get_or, eqb}
use Rattle.std.proofs.Common.{ap, arith, eqb-true, eq-eqb, ne_eqb}
use Rattle.laws.specs.Bools.{and_left, and_right, and_both}
use Rattle.numbers.specs.Showings.{loop_word, pairs_word}
use Rattle.card.specs.Card.{Legal, length_in, blocks_of, record_fault}
use Rattle.words.specs.Words.{Words, words_of, with_words}
use Rattle.words.specs.Laws.{read_written}
use Rattle.card.specs.declared.Figures.{Figures}
use Rattle.placement.specs.Showing.{Showing, one, loop, pairs, visits_of, walked}
use Rattle.plan.specs.declared.Plan.{Plan}
use Rattle.plan.specs.Plan.{word_of, showing_of, walk_of, showing_in, start_in, position_in, entries_of, lead_in, streams_of, buffer_size}
use Rattle.plan.specs.Plan.{worst2_of, worst_at_of, margin_of, plan_of}
use Rattle.plan.specs.Answer.{begins, same_numbers}
use Rattle.plan.specs.Rows.{take_begins}

-- a plan has the numbers of its figures, which are legal and feed a stream
pub record Numbered (p : Plan) : Type 0 where
  pub legal : Legal (visits_of (showing_in p)) p.figures
  pub fed : 0 < streams_of (showing_in p) p.figures
  pub plan : p ≡ plan_of (showing_in p) p.figures

-- a passed check: the same, and both lists begin with the films' entries, film i's behind those of the films before it
pub record Checked (p : Plan) (ps ls : List ℕ) : Type 0 where
  pub clear : record_fault (visits_of (showing_in p)) p.figures ≡ 0
  pub fed : 0 < streams_of (showing_in p) p.figures
  pub plan : p ≡ plan_of (showing_in p) p.figures
  pub long : (entries_of (showing_in p) p.figures ≤ length (words_of ps)) × (blocks_of p.figures ≤ length (words_of ls))
  pub position_at : (i v : ℕ) → i < p.figures.films → v < visits_of (showing_in p) * length_in p.figures i
      → get_or (words_of ps) (visits_of (showing_in p) * start_in p.figures i + v) 0 ≡ position_in (showing_in p) p.figures i v
  pub lead_at_law : (i b : ℕ) → i < p.figures.films → b < length_in p.figures i
      → get_or (words_of ls) (start_in p.figures i + b) 0 ≡ lead_in (showing_in p) p.figures i b

pub same_plan : (p : Plan) (x : Showing) (f : Figures) → p.figures ≡ f → same_numbers p (plan_of x f) ≡ true → p ≡ plan_of x f
unfolding plan_of
same_plan p x f d e =
    let e₁ = and_right (eqb p.streams (streams_of x f)) _ e in
    let e₂ = and_right (eqb p.buffer (buffer_size x f)) _ e₁ in
    let s = eqb-true p.streams (streams_of x f) (and_left (eqb p.streams (streams_of x f)) _ e) in
    let b = eqb-true p.buffer (buffer_size x f) (and_left (eqb p.buffer (buffer_size x f)) _ e₁) in
    let w = eqb-true p.worst2 (worst2_of x f) (and_left (eqb p.worst2 (worst2_of x f)) _ e₂) in
    let e₃ = and_right (eqb p.worst2 (worst2_of x f)) _ e₂ in
    let m = eqb-true p.margin (margin_of x f) (and_left (eqb p.margin (margin_of x f)) _ e₃) in
    let e₄ = and_right (eqb p.margin (margin_of x f)) _ e₃ in
    let k = eqb-true p.showing (word_of x) (and_left (eqb p.showing (word_of x)) _ e₄) in
    let a = eqb-true p.worstat (worst_at_of x f) (and_right (eqb p.showing (word_of x)) _ e₄) in
    λ i. record { figures = d i; streams = s i; buffer = b i; worst2 = w i; margin = m i; showing = k i; worstat = a i }

-- ---- the planner's own answers

-- the word of a showing tells it
pub showing_back : (x : Showing) → showing_of (word_of x) ≡ x
unfolding showing_of
showing_back one = refl
showing_back loop = refl
showing_back pairs = refl

-- the showing of a word, as code tests it
pub shows_loop : (w : ℕ) → w ≡ loop_word → showing_of w ≡ loop
unfolding showing_of
shows_loop w e = rw (eq-eqb w loop_word e)

pub shows_pairs : (w : ℕ) → w ≡ pairs_word → showing_of w ≡ pairs
unfolding showing_of
shows_pairs w e = rw e

pub shows_once : (w : ℕ) → (w ≡ loop_word → ⊥) → (w ≡ pairs_word → ⊥) → showing_of w ≡ one
unfolding showing_of
shows_once w e d = rw (ne_eqb w loop_word e, ne_eqb w pairs_word d)

-- so are the visits of a block, and the walk over them
pub word_visits : (w : ℕ) → (w ≡ pairs_word → ⊥) → visits_of (showing_of w) ≡ 1
unfolding showing_of
word_visits w d = go (eqb w loop_word)
  where
    go : (t : Bool) → visits_of (cond t loop (cond (eqb w pairs_word) pairs one)) ≡ 1
    go true = refl
    go false = rw (ne_eqb w pairs_word d)

pub walks_loop : (w : ℕ) → w ≡ loop_word → walk_of w ≡ loop
walks_loop w e = ap walked (shows_loop w e)

pub walks_once : (w : ℕ) → (w ≡ loop_word → ⊥) → walk_of w ≡ one
unfolding showing_of
walks_once w e = rw (ne_eqb w loop_word e) (go (eqb w pairs_word))
  where
    go : (t : Bool) → walked (cond t pairs one) ≡ one
    go true = refl
    go false = refl

pub same_numbers_self : (p : Plan) → same_numbers p p ≡ true
same_numbers_self p =
    and_both (eq-eqb p.streams p.streams refl)
    (and_both (eq-eqb p.buffer p.buffer refl)
    (and_both (eq-eqb p.worst2 p.worst2 refl) (and_both (eq-eqb p.margin p.margin refl)
    (and_both (eq-eqb p.showing p.showing refl) (eq-eqb p.worstat p.worstat refl)))))

-- a list in which numbers were written begins with them
pub written_begins : (vs s : List ℕ) → Words vs → length vs ≤ length (words_of s) → begins vs (words_of (with_words s 0 vs)) ≡ true
written_begins vs s w h = take_begins vs _ (read_written s 0 vs w (omega arith))
