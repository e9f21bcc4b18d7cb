-- The plan of legal figures can be written and read back: its arrays have 64, 16 and 257 entries, its numbers 32 bits.
-- Assumes nothing.
use Rattle.std.specs.Prelude.{suc, ◌<◌, ◌≡◌, get_or}
use Rattle.std.proofs.Math.Logic.{by_cases}
use Rattle.std.proofs.Common.{⊎_elim, arith}
use Rattle.std.proofs.Math.Decide.{dec_lt}
use Rattle.std.proofs.Math.ListN.{get_or-eq_default}
use Rattle.numbers.specs.Limits.{table_length}
use Rattle.words.specs.Words.{Words}
use Rattle.card.specs.declared.Figures.{Figures}
use Rattle.card.specs.Card.{Legal}
use Rattle.card.specs.CardLaws.{table_range, table_long}
use Rattle.placement.specs.Zones.{total_turn, total_take}
use Rattle.placement.specs.Showing.{Showing, one, loop, pairs, visits_of, visits_few}
use Rattle.pacing.specs.Streams.{cap_visits}
use Rattle.plan.specs.Plan.{word_of, streams_of, plan_of}
use Rattle.plan.specs.Legal.{total_is, streams_few}
use Rattle.plan.proofs.Legal.{worst2_small, worst_at_small, margin_less, buffer_small}
use Rattle.fields.specs.Fields.{◌&◌}
use Rattle.fields.specs.FieldLaws.{AllFit, packed_fit}
use Rattle.plan_layout.specs.Layout.{plan_fields, plan_values, plan_words}
use Rattle.plan_layout.specs.RoundTrip.{PlanSized}

word_small : (x : Showing) → word_of x < 4294967296
word_small one = omega arith
word_small loop = omega arith
word_small pairs = omega arith

module _ (x : Showing) (f : Figures) (ok : Legal (visits_of x) f) where
  pub legal_sized : PlanSized (plan_of x f)
  unfolding plan_of
  legal_sized = record { positions = ok.wide.0; times = ok.wide.1; blocks = ok.wide.2; table = ok.wide.3 }

  positions_small : Words f.positions
  positions_small i = by_cases (dec_lt i f.zones)
      (λ h. omega (arith, total_turn f.positions i (omega (arith, ok.zones, ok.wide)), total_take f.positions (suc i), total_is f ok, ok.total))
      (λ h. omega (arith, ok.unused i (omega arith)))

  times_small : Words f.times
  times_small i = by_cases (dec_lt i f.zones) (λ h. omega (arith, ok.times i h)) (λ h. omega (arith, ok.unused i (omega arith)))

  blocks_small : Words f.blocks
  blocks_small i = by_cases (dec_lt i f.films) (λ h. omega (arith, ok.blocks i h)) (λ h. omega (arith, ok.idle i (omega arith)))

  table_small : Words f.table
  table_small i = by_cases (dec_lt i table_length)
      (λ h. omega (arith, table_range f ok i h))
      (λ h. let e : get_or f.table i 0 ≡ 0 = get_or-eq_default f.table 0 (omega (arith, table_long f ok)) in omega arith)

  kind_small : f.kind < 4294967296
  kind_small = ⊎_elim (λ e. omega arith) (λ e. omega arith) ok.kind

  legal_fit : AllFit plan_fields (plan_values (plan_of x f))
  unfolding plan_of
  legal_fit =
      kind_small
      & omega (arith, ok.zones)
      & positions_small
      & times_small
      & omega (arith, ok.films)
      & blocks_small
      & omega (arith, ok.bytes)
      & omega (arith, ok.rate)
      & table_small
      & omega (arith, cap_visits x (streams_of x f) (streams_few x f ok))
      & omega (arith, ok.bytes, buffer_small x f ok)
      & omega (arith, worst2_small x f ok, visits_few x)
      & omega (arith, margin_less x f ok, worst2_small x f ok, visits_few x)
      & word_small x
      & omega (arith, worst_at_small x f ok, ok.all)
      & tt

  pub legal_words : Words (plan_words (plan_of x f))
  unfolding plan_words
  legal_words = packed_fit plan_fields (plan_values (plan_of x f)) legal_fit
