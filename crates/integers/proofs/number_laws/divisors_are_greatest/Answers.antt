use Rattle.integers.proofs.Divisibility.{IsGcdOf-gcd_of, gcd_of_nonneg, IsGcdOfAll-divisor_of_all}
use Rattle.integers.proofs.Gcd.{IsGcd-common_divisor}
use Rattle.integers.proofs.number_laws.divisors_are_greatest.Goals as goal

pub returns : goal.returns
returns c = record { naturals = IsGcd-common_divisor; numbers = IsGcdOf-gcd_of; sign = gcd_of_nonneg; lists = IsGcdOfAll-divisor_of_all }
