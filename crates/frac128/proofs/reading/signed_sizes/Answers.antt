use Rattle.frac128.proofs.ReadingLemmas.{reads_plain, reads_minus, take-rest}
use Rattle.std.proofs.Common.{◌<◌, ◌≢◌, length, get_or, arith}
use Rattle.std.proofs.lemmas.Bool.Decides.{nat_tests}
use Rattle.frac128.proofs.reading.signed_sizes.Goals as goal
use Rattle.frac128.proofs.reading.signed_sizes.Goals.{else-not-is_empty-via-then-not-is_empty+else-bytes-eq45, else-not-is_empty-via-else-not-is_empty}

pub returns-then-bytes-eq45 : goal.returns-then-bytes-eq45
returns-then-bytes-eq45 c =
    let bytes = c.args.bytes.now in
    let some : 0 < length bytes = grind (arith, nat_tests) in
    reads_minus bytes _ c.negative_sizes.result some c.if-bytes-eq45.true (take-rest 1 bytes) c.negative_sizes.ensures

pub returns-else-not-is_empty : goal.returns-else-not-is_empty
returns-else-not-is_empty c =
    let bytes = c.args.bytes.now in
    let plain : 0 < length bytes → get_or bytes 0 0 ≢ 45 = λ some. elim c.else-not-is_empty.branch [
      | else-not-is_empty-via-then-not-is_empty+else-bytes-eq45 w ↦ w.if-bytes-eq45.false
      | else-not-is_empty-via-else-not-is_empty w ↦ λ at. grind (arith, nat_tests)
    ] in
    reads_plain bytes c.sizes.result plain c.sizes.ensures
