use Rattle.std.proofs.Common.{◌≡◌, ◌∙◌, rules, subst, subst₂, sym, get_or, pos, unsigned_abs}
use Prim.Native.Nat.{◌∣◌}
use Rattle.integers.proofs.Divisibility.{positive_divisor, quotient_divides}
use Rattle.lex_simplex.specs.Steps.{CanExchange, DoneIff, ExchangeFitsBy, exchanged_row_by}
use Rattle.lex_simplex.proofs.CellLists.Exchange.{can_by, done-by_factors, own_is}
use Rattle.lex_simplex.proofs.CellLists.Once.{exchanged_row-none}
use Rattle.lex_simplex.proofs.numbers.exchange.Goals as goal

pub returns-then-eq-clause-done : goal.returns-then-eq-clause-done
returns-then-eq-clause-done c =
    let zero : c.index-row-place.result ≡ pos 0 = search rules in
    let own : get_or c.args.row.now c.args.place (pos 0) ≡ pos 0 =
    sym (own_is c.args.row.now c.args.place c.index-row-place.result c.requires.within c.index-row-place.is) ∙ zero in
    let kept = exchanged_row-none c.args.number c.args.place c.args.pivot.now c.args.row.now c.requires own in
    record { ok = kept.0; too_wide = tt; value_is = kept.1 }

pub quotient-p-requires : goal.quotient-p-requires
quotient-p-requires c = positive_divisor c.args.number c.common_divisor-divisor.result c.requires.number_pos c.common_divisor-divisor.ensures.divisor.0
    c.common_divisor-divisor.ensures.sign

pub quotient-q-requires : goal.quotient-q-requires
quotient-q-requires c = positive_divisor c.args.number c.common_divisor-divisor.result c.requires.number_pos c.common_divisor-divisor.ensures.divisor.0
    c.common_divisor-divisor.ensures.sign

pub exchange_once-requires-clause-divides : goal.exchange_once-requires-clause-divides
exchange_once-requires-clause-divides c =
    let positive = positive_divisor c.args.number c.common_divisor-divisor.result c.requires.number_pos c.common_divisor-divisor.ensures.divisor.0
    c.common_divisor-divisor.ensures.sign in
    subst₂ (λ q own. unsigned_abs q ∣ unsigned_abs own) (sym c.quotient-q.ensures)
    (own_is c.args.row.now c.args.place c.index-row-place.result c.requires.within c.index-row-place.is)
    (quotient_divides c.index-row-place.result c.common_divisor-divisor.result positive c.common_divisor-divisor.ensures.divisor.1)

pub returns-then-eq-2-clause-done : goal.returns-then-eq-2-clause-done
returns-then-eq-2-clause-done c =
    let one : c.quotient-p.result ≡ pos 1 = search rules in
    let done = subst (λ p. DoneIff c.exchange_once.result (ExchangeFitsBy p c.quotient-q.result c.args.place c.args.pivot.now c.args.row.now)
    c.exchange_once.new.row (exchanged_row_by p c.quotient-q.result c.args.place c.args.pivot.now c.args.row.now))
    (sym one) c.exchange_once.ensures.done in
    done-by_factors c.exchange_once.result c.args.number c.args.place c.args.pivot.now c.args.row.now c.index-row-place.result
    c.common_divisor-divisor.result c.quotient-p.result c.quotient-q.result c.exchange_once.new.row c.requires.within c.index-row-place.is
    c.common_divisor-divisor.ensures.divisor c.common_divisor-divisor.ensures.sign c.quotient-p.ensures c.quotient-q.ensures done

pub exchange_by-requires : goal.exchange_by-requires
exchange_by-requires c =
    let positive = positive_divisor c.args.number c.common_divisor-divisor.result c.requires.number_pos c.common_divisor-divisor.ensures.divisor.0
    c.common_divisor-divisor.ensures.sign in
    subst (λ pivot. CanExchange c.quotient-p.result c.args.place pivot c.args.row.now) (sym c.cells.ensures)
    (can_by c.args.number c.common_divisor-divisor.result c.quotient-p.result c.args.place c.args.pivot.now c.args.row.now c.requires
    c.quotient-p.ensures c.common_divisor-divisor.ensures.divisor.0 positive)

pub returns-clause-done : goal.returns-clause-done
returns-clause-done c =
    let done = subst (λ pivot. DoneIff c.exchange_by.result
    (ExchangeFitsBy c.quotient-p.result c.quotient-q.result c.args.place pivot c.args.row.now) c.exchange_by.new.row
    (exchanged_row_by c.quotient-p.result c.quotient-q.result c.args.place pivot c.args.row.now)) c.cells.ensures c.exchange_by.ensures.done in
    done-by_factors c.exchange_by.result c.args.number c.args.place c.args.pivot.now c.args.row.now c.index-row-place.result c.common_divisor-divisor.result
    c.quotient-p.result c.quotient-q.result c.exchange_by.new.row c.requires.within c.index-row-place.is c.common_divisor-divisor.ensures.divisor
    c.common_divisor-divisor.ensures.sign c.quotient-p.ensures c.quotient-q.ensures done
