use Rattle.std.proofs.Common.{arith}
use Rattle.text_fields.proofs.FieldLists.{texts_three}
use Rattle.job_release.proofs.Decided.{no_time_fields, no_times_of}
use Rattle.job_release.proofs.form.read_times_of.Goals as goal

pub returns-in_err-read_times-in-len3 : goal.returns-in_err-read_times-in-len3
returns-in_err-read_times-in-len3 c =
    let three = texts_three c.args.fields.now _ c.in-len3.len_at_least c.in-len3.len_below in
    rw c.from_residual.ensures
    (no_times_of c.args.version _ (λ job is are. no_time_fields _ _ _ _ three c.in_err-read_times-in-len3.ensures job are)
    (λ is none. omega (arith, is, c.if-version-eq-FIRST_VERSION.true)))
