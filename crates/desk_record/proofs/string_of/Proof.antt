use mir.Syntax.{w32}
use mir.Val.{Fits}
use Prim.Native.Nat.{ℕ}
use mathlib.Core.Path.{ap, ◌∙◌}
use mathlib.Core.List.{List}
use native.Mathlib.Omega.{arith}
use lib.ListN.{get_or}
use borrow.Author.Rules.{rules}
use Rattle.words.specs.Words.{Bytes, Words, with_words}
use Rattle.words.specs.Laws.{bytes_fit}
use Rattle.plan.specs.declared.Plan.{Plan}
use Rattle.plan.specs.Lent.{lent_plan_law}
use Rattle.fields.specs.Fields.{◌&◌}
use Rattle.fields.specs.FieldLaws.{AllFit, packed_fit}
use Rattle.plan_layout.specs.Layout.{plan_fields, plan_values, plan_words}
use Rattle.desk_layout.specs.Layout.{slot_fields, slot_values}
use Rattle.desk_layout.specs.RoundTrip.{DeskSized, desk_fit}
use Rattle.desk_record.specs.Said.{desk_said}
use Rattle.desk_record.proofs.string_of.Statement.{statement}
use Rattle.desk_record.proofs.string_of.Tie as tie

-- the arrays have their lengths, and all numbers 32 bits
sized : (c : tie.Start) → DeskSized c.args.desk
sized c = record {
  plan = record { positions = search rules; times = search rules; blocks = search rules; table = search rules };
  kinds = search rules;
  next = search rules;
  held = search rules;
  places = search rules;
}

below : (vs : List ℕ) → ((i : ℕ) → Fits w32 (get_or vs i 0)) → Words vs
below vs f i = (f i).fits

plan-small : (c : tie.Start) → AllFit plan_fields (plan_values c.args.desk.plan)
plan-small c =
    let f = c.args.desk.plan.figures in
    search rules
    & search rules
    & below f.positions (search rules)
    & below f.times (search rules)
    & search rules
    & below f.blocks (search rules)
    & search rules
    & search rules
    & below f.table (search rules)
    & search rules
    & search rules
    & search rules
    & search rules
    & search rules
    & search rules
    & tt

plan-fits : (c : tie.Start) → Words (plan_words c.args.desk.plan)
unfolding plan_words
plan-fits c = packed_fit plan_fields (plan_values c.args.desk.plan) (plan-small c)

slots_small : (c : tie.Start) → AllFit slot_fields (slot_values c.args.desk)
slots_small c =
    let d = c.args.desk in
    search rules & below d.kinds (search rules) & below d.next (search rules) & below d.held (search rules) & below d.places (search rules) & tt

empty-bytes : (c : tie.After-blank-string) → Bytes c.blank-string.result
empty-bytes c = bytes_fit c.blank-string.result (search rules)

returns : tie.Need-returns
returns c =
    let places = c in
    let slots = c in
    let plan = c in
    let numbers = c in
    let scalars = c in
    let s = c in
    let d = s.args.desk in
    let empty = scalars.blank-string.result in
    let same = lent_plan_law _ _ d.plan scalars.scalars_in-figures.ensures numbers.numbers_in-numbers.ensures in (
      desk_said d empty _ _ _ (sized c.before.before.before.before.before.before.before.before.before.before.before.before.before.before.before.before.before.before.before.before.before) (plan-fits c.before.before.before.before.before.before.before.before.before.before.before.before.before.before.before.before.before.before.before.before.before) (desk_fit d (plan-fits c.before.before.before.before.before.before.before.before.before.before.before.before.before.before.before.before.before.before.before.before.before) (slots_small c.before.before.before.before.before.before.before.before.before.before.before.before.before.before.before.before.before.before.before.before.before)) (empty-bytes c.before.before.before.before.before.before.before.before.before.before.before.before.before.before.before.before.before.before.before.before) (omega arith)
          (plan.write_parts.ensures.0 ∙ ap (λ (p : Plan). with_words empty 0 (plan_words p)) same) slots.put_slots.ensures
          places.put_places.ensures.0,
      search rules,
    )

pub string_of_spec : {M : Type 1} → statement M
string_of_spec =
    tie.close
    (tie.spec
    (λ c κs. search rules)
    (λ c κs. search rules)
    (λ c κs. search rules)
    (λ c. search rules)
    (λ c κs. search rules)
    (λ c. search rules)
    (λ c κs. search rules)
    (λ c. search rules)
    (λ c κs. search rules)
    returns)
