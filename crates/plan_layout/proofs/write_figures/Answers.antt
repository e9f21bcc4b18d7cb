use Rattle.plan_layout.proofs.write_figures.Goals as goal

-- one write after the other
pub returns : goal.returns
returns c = (
  rw (
    c.write_array-4.ensures.0,
    c.write_words-3.ensures,
    c.write_array-3.ensures.0,
    c.write_words-2.ensures,
    c.write_array-2.ensures.0,
    c.write_array.ensures.0,
    c.write_words.ensures,
  ),
  record {
    positions = c.write_array.ensures.1;
    times = c.write_array-2.ensures.1;
    blocks = c.write_array-3.ensures.1;
    table = c.write_array-4.ensures.1;
  },
)
