use Rattle.plan_check.proofs.same_numbers.Goals as goal

pub returns : goal.returns
returns c = λ f. rw (c.both-3.ensures, c.both-2.ensures, c.both-timed.ensures, c.both.ensures, c.both-shown.ensures)
