use Rattle.std.specs.Prelude.{ℕ, ◌≡◌, List, [], ◌∷◌, get_or}
use Rattle.std.proofs.Common.{sym, ap, ◌∙◌}
use Rattle.numbers.specs.Limits.{straight_kind}
use Rattle.card_table.specs.Table.{hop_in, table_numbers}
use Rattle.card_writer.proofs.WriterWays.{writes_start, writes_fits, writes_next, writes_done}
use Rattle.card_writer.proofs.WriterWays.{numbers_straight, numbers_measured, puts_same, room_same}
use Rattle.card_writer.proofs.writing.put_table.Goals as goal

-- the numbers of kind 1 are those that the code puts
moves : (kind hop : ℕ) (table : List ℕ) → kind ≡ straight_kind → hop ≡ hop_in table → hop ∷ get_or table 0 0 ∷ [] ≡ table_numbers kind table
moves kind hop table k h = ap (λ (x : ℕ). x ∷ get_or table 0 0 ∷ []) h ∙ sym (numbers_straight kind table k)

pub put_number-at-requires : goal.put_number-at-requires
put_number-at-requires c =
    let all = moves _ _ _ c.if-kind-eq-STRAIGHT.true c.hop_in.ensures in
    writes_fits (room_same all c.requires.1) (writes_start _ _ _ _)

pub put_number-requires : goal.put_number-requires
put_number-requires c =
    let all = moves _ _ _ c.if-kind-eq-STRAIGHT.true c.hop_in.ensures in
    let room = room_same all c.requires.1 in
    writes_fits room (writes_next room (writes_start _ _ _ _) c.put_number-at.ensures)

pub returns-then-kind-eq-STRAIGHT : goal.returns-then-kind-eq-STRAIGHT
returns-then-kind-eq-STRAIGHT c =
    let all = moves _ _ _ c.if-kind-eq-STRAIGHT.true c.hop_in.ensures in
    let room = room_same all c.requires.1 in
    let back = writes_next room (writes_start _ _ _ _) c.put_number-at.ensures in
    puts_same all (writes_done (writes_next room back c.put_number.ensures))

pub put_entries-requires : goal.put_entries-requires
put_entries-requires c = (c.requires.0, room_same (sym (numbers_measured _ _ c.if-kind-eq-STRAIGHT.false)) c.requires.1)

pub returns : goal.returns
returns c = puts_same (sym (numbers_measured _ _ c.if-kind-eq-STRAIGHT.false)) c.put_entries.ensures
