-- Lent entries that an answer does not fill keep their contents: past N, past the fetch count, past a written card.
-- Assumes nothing.
use Rattle.std.specs.Prelude.{ℕ, zero, suc, ◌+◌, ◌-◌, ◌*◌, ◌≤◌, ◌≡◌, refl, Bool, true, false, cond, List, ◌++◌, length, get_or, drop, leb, eqb}
use Rattle.std.proofs.Common.{sym, ap, ◌∙◌, arith, length-append, length-drop, get_or-append-add, get_or-drop, leb-true}
use Rattle.numbers.specs.Refusals.{not_sound, too_short}
use Rattle.words.specs.Words.{with_words}
use Rattle.words.specs.Laws.{with_words_length, with_words_after}
use Rattle.card.specs.declared.Figures.{Figures}
use Rattle.card.specs.declared.CardRead.{CardRead}
use Rattle.card.specs.Card.{blocks_of, record_fault, card_of, write_fault, written_by, buffer_by, written_card, buffer_after}
use Rattle.card_field.specs.Ranges.{first}
use Rattle.card.specs.Read.{read_card}
use Rattle.placement.specs.Showing.{Showing, visits_of}
use Rattle.plan.specs.Plan.{positions_of, leads_of}
use Rattle.plan.specs.Films.{positions_length, leads_length}
use Rattle.plan.specs.Rows.{row_length}
use Rattle.plan.specs.Answer.{fault_after, filled, positions_after, leads_after}
use Rattle.desk.specs.Desk.{fetches_of, begin_desk, entries_of, entry_words, fetch_list_after}
use Rattle.layout.specs.Answers.{verdict_answer}
use Rattle.desk_layout.specs.Layout.{desk_size}
use Rattle.plan_strings.specs.Calls.{plan_fault_of, positions_string, leads_string}
use Rattle.desk_calls.specs.Calls.{refused_by, said, answer_by, room_in, begun_answer, begin_answer, fetch_string}
use Rattle.string_claims.specs.EntryLaws.{entry_length}
use Rattle.string_claims.specs.Unfilled.{SameFrom}

-- entries are written from the front
written_past : (s vs : List ℕ) (m : ℕ) → 4 * length vs ≤ m → SameFrom m s (with_words s 0 vs)
written_past s vs m h = (with_words_length s 0 vs, λ j u. with_words_after s 0 vs j (omega arith))

-- ---- positions and leads, past those of all blocks

filled_past : (j k : ℕ) (s vs : List ℕ) (n : ℕ) → length vs ≡ n → SameFrom (4 * n) s (filled j k s vs)
filled_past zero zero s vs n l = written_past s vs (4 * n) (omega arith)
filled_past zero (suc k) s vs n l = (refl, λ i u. refl)
filled_past (suc j) k s vs n l = (refl, λ i u. refl)

-- after the planner on a record or a card, and after the plan call
pub lists_past : (x : Showing) (r : CardRead) (ps ls : List ℕ)
    → SameFrom (4 * (visits_of x * blocks_of r.figures)) ps (positions_after x r ps ls) × SameFrom (4 * blocks_of r.figures) ls (leads_after x r ps ls)
unfolding positions_after leads_after
lists_past x r ps ls = (
  filled_past r.verdict.number (fault_after x r ps ls) ps (positions_of x r.figures) _ (positions_length x r.figures),
  filled_past r.verdict.number (fault_after x r ps ls) ls (leads_of x r.figures) _ (leads_length x r.figures),
)

pub strings_past : (x : Showing) (s p ps ls : List ℕ)
    → SameFrom (4 * (visits_of x * blocks_of (read_card (visits_of x) s).figures)) ps (positions_string x s p ps ls)
    × SameFrom (4 * blocks_of (read_card (visits_of x) s).figures) ls (leads_string x s p ps ls)
unfolding positions_string leads_string
strings_past x s p ps ls =
    let r = read_card (visits_of x) s in (
      filled_past r.verdict.number (plan_fault_of x r p ps ls) ps (positions_of x r.figures) _ (positions_length x r.figures),
      filled_past r.verdict.number (plan_fault_of x r p ps ls) ls (leads_of x r.figures) _ (leads_length x r.figures),
    )

-- ---- the fetch list, past the count: an entry has 12 bytes

pub fetches_past : (D ps ls F : List ℕ) → SameFrom (12 * (begin_answer D ps ls F).count) F (fetch_string D ps ls F)
unfolding begin_answer answer_by verdict_answer begun_answer begin_desk fetches_of fetch_string fetch_list_after
fetches_past D ps ls F = go (eqb (length D) desk_size)
  where
    go : (t : Bool)
        → SameFrom (12 * (cond t (begun_answer (begin_desk (said D) ps ls (room_in F))) (refused_by not_sound)).count) F
        (cond t (fetch_list_after (said D) ps ls (room_in F) F) F)
    go true =
        let es = entries_of (said D) ps ls (room_in F) in
        written_past F (entry_words es) (12 * length es) (omega (arith, entry_length es))
    go false = (refl, λ j u. refl)

-- ---- the buffer, past the card

card_room : (f : Figures) (n : ℕ) → write_fault f n ≡ 0 → length (card_of f) ≤ n
unfolding write_fault first
card_room f n e = go (record_fault 1 f) (leb (length (card_of f)) n) refl e
  where
    go : (k : ℕ) (t : Bool) → leb (length (card_of f)) n ≡ t → first k (cond t 0 too_short) ≡ 0 → length (card_of f) ≤ n
    go zero true q e = leb-true (length (card_of f)) n q
    go zero false q e = absurd (omega arith)
    go (suc k) t q e = absurd (omega arith)

pub card_past : (f : Figures) (out : List ℕ) → SameFrom (written_card f out).length out (buffer_after f out)
unfolding written_card buffer_after
card_past f out = go (write_fault f (length out)) refl
  where
    past : (c : List ℕ) (j : ℕ) → length c ≤ j → get_or (c ++ drop (length c) out) j 0 ≡ get_or out j 0
    past c j u =
        let e : length c + (j - length c) ≡ j = omega arith in
        ap (λ (k : ℕ). get_or (c ++ drop (length c) out) k 0) (sym e)
        ∙ get_or-append-add c (drop (length c) out) (j - length c) 0
        ∙ get_or-drop (length c) out (j - length c) 0
        ∙ ap (λ (k : ℕ). get_or out k 0) e

    go : (k : ℕ) → write_fault f (length out) ≡ k → SameFrom (written_by k f).length out (buffer_by k f out)
    go zero e = (
      omega (arith, length-append (card_of f) (drop (length (card_of f)) out), length-drop (length (card_of f)) out, card_room f (length out) e),
      past (card_of f),
    )
    go (suc k) e = (refl, λ j u. refl)
