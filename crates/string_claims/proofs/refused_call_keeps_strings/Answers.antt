use Rattle.string_claims.specs.Kept.{join_kept, leave_kept, begin_kept, fetches_kept, end_kept}
use Rattle.string_claims.proofs.refused_call_keeps_strings.Goals as goal

pub returns : goal.returns
returns c = record {
  joins = join_kept;
  leaves = leave_kept;
  begins = λ D ps ls F y n. (begin_kept D ps ls F y n, fetches_kept D ps ls F n);
  ends = end_kept;
}
