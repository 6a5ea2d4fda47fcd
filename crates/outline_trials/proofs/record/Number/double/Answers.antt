-- A pattern whose size is at most that of infinity is no NaN's.
use Rattle.std.proofs.Common.{rules}
use Rattle.std.proofs.lemmas.Float.{not_nan_f64_bits}
use Rattle.outline_trials.proofs.record.Number.double.Goals as goal

pub float_from_bits-result : goal.float_from_bits-result
float_from_bits-result c = not_nan_f64_bits _ (search rules)
