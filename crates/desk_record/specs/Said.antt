-- A desk whose plan, then whose slots and then whose places are written is what the string says.
-- Assumes nothing.
use Rattle.std.specs.Prelude.{ℕ, ◌≤◌, ◌≡◌, List, length}
use Rattle.std.proofs.Common.{ap, ◌∙◌, arith}
use Rattle.words.specs.Words.{Bytes, Words, words_of, with_words}
use Rattle.words.specs.Laws.{words_length, with_words_length, with_words_bytes}
use Rattle.plan.specs.declared.Plan.{Plan}
use Rattle.desk.specs.declared.Desk.{Desk}
use Rattle.desk.specs.Records.{record_of}
use Rattle.plan_layout.specs.Layout.{plan_words, plan_in}
use Rattle.plan_layout.specs.RoundTrip.{plan_written}
use Rattle.desk_layout.specs.Layout.{desk_words, desk_in, desk_size, with_places}
use Rattle.desk_layout.specs.RoundTrip.{DeskSized, plan_in_front, desk_written}
use Rattle.desk_layout.specs.Sized.{sized_in}
use Rattle.desk_layout.specs.Parts.{places_over}

-- the strings after each: s is given, then t, u and v
pub desk_said : (d : Desk) (s t u v : List ℕ) → DeskSized d → Words (plan_words d.plan) → Words (desk_words d) → Bytes s → desk_size ≤ length s
    → t ≡ with_words s 0 (plan_words d.plan)
    → (let e = desk_in (words_of t) in u ≡ with_words t 0 (desk_words (record_of e.plan d.phase d.kinds d.next d.held e.places)))
    → v ≡ with_words u 0 (desk_words (with_places (desk_in (words_of u)) d.places))
    → desk_in (words_of v) ≡ d
desk_said d s t u v z fp fd y l e q r =
    let long : length t ≡ length s = ap length e ∙ with_words_length s 0 (plan_words d.plan) in
    let room : desk_size ≤ length t = omega arith in
    let bytes : Bytes t = rw e (with_words_bytes s 0 (plan_words d.plan) y) in
    let plan : (desk_in (words_of t)).plan ≡ d.plan =
    plan_in_front (words_of t) ∙ ap (λ (w : List ℕ). plan_in (words_of w)) e ∙ plan_written s d.plan z.plan fp (omega (arith, words_length s))
    in
    let first : DeskSized (record_of (desk_in (words_of t)).plan d.phase d.kinds d.next d.held (desk_in (words_of t)).places) =
    record { plan = (sized_in t room).plan; kinds = z.kinds; next = z.next; held = z.held; places = (sized_in t room).places }
    in
    let all = places_over t u v _ d.places bytes room first z.places q r in
    ap (λ (w : List ℕ). desk_in (words_of w))
    (all ∙ ap (λ (p : Plan). with_words t 0 (desk_words (record_of p d.phase d.kinds d.next d.held d.places))) plan)
    ∙ desk_written t d z fd (omega (arith, words_length t))
