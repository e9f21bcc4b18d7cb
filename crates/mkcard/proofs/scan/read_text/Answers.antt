-- The next byte is stepped over; at the end nothing is left to scan.
use Rattle.std.proofs.Common.{◌+◌, ◌∙◌, ap, sym, arith, drop}
use Rattle.mkcard.specs.declared.scan.Scan.{Scan}
use Rattle.mkcard.specs.Scan.{scanned}
use Rattle.mkcard.proofs.WordWays.{scanned_more, scanned_done}
use Rattle.mkcard.proofs.scan.read_text.Goals as goal

pub loop-byte-preserved : goal.loop-byte-preserved
loop-byte-preserved c =
    let l = c.loop-byte in
    let i = l.byte-index in
    let t = c.args.text.now in
    ap (λ (x : Scan). scanned x (drop (i + 1) t)) c.step-next.ensures ∙ sym (scanned_more l.next t i (omega arith)) ∙ l.invariant

pub returns : goal.returns
returns c = let l = c.loop-byte in sym (scanned_done l.next _ l.byte-index (omega arith)) ∙ l.invariant
