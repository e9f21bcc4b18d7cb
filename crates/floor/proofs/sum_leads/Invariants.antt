use Rattle.words.specs.Words.{words_of}
use Rattle.desk_layout.specs.Layout.{desk_in}
use Rattle.floor.specs.Sources.{leads_next}
use Rattle.floor.proofs.Summing.{Summed}
use Rattle.floor.proofs.sum_leads.Given as goal

abbrev pub invariant-loop-i : goal.invariant-loop-i
invariant-loop-i l = let d = desk_in (words_of l.desk) in
    Summed (leads_next l.listed d l.sizes l.times l.positions l.leads) d.kinds d.next l.streams l.sum l.i
