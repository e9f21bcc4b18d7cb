-- What is left of the text, scanned on, is the whole text scanned.
use Rattle.std.proofs.Common.{◌≡◌, drop}
use Rattle.mkcard.specs.Scan.{scanned}
use Rattle.mkcard.proofs.scan.read_text.Given as goal

abbrev pub invariant-loop-byte : goal.invariant-loop-byte
invariant-loop-byte l = scanned l.next (drop l.byte-index l.text) ≡ scanned l.initial.next l.text
