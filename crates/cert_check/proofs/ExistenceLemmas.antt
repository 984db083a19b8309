-- Each definition of an answer has one, for all arguments.
pub use Rattle.cert_check.proofs.TextExistence.{every_text_reads_or_is_bad}
pub use Rattle.cert_check.proofs.VerdictExistence.{every_span_check_has_a_verdict, every_farkas_check_has_a_verdict}
