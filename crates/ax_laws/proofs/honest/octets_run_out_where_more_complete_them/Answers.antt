use Rattle.ax_fspec.proofs.Honest.{kind_honest, record_honest, body_honest}
use Rattle.ax_laws.proofs.honest.octets_run_out_where_more_complete_them.Goals as goal

pub returns : goal.returns
returns c = record {
  of_body = λ spec octets p cause flawless fails. (body_honest spec octets p cause flawless fails).runs_out;
  of_record = λ spec octets p cause flawless fails. (record_honest spec octets p cause flawless fails).runs_out;
  of_kind = λ k octets p cause bounds fails. (kind_honest k octets p cause bounds fails).runs_out;
}
