use Rattle.std.proofs.Common.{◌∙◌, sym, ap, get_or}
use Rattle.std.specs.Option.{option_map}
use Rattle.hexadecimal.proofs.Digits.{byte_read}
use Rattle.hexadecimal.proofs.byte_of.Goals as goal

pub returns-in_err-ok : goal.returns-in_err-ok
returns-in_err-ok c =
    let out = c.decode_to_slice.new.out in
    c.from_residual.ensures ∙ sym (ap (option_map (λ _. get_or out 0 0)) (sym c.ok.ensures.value ∙ c.in_err-ok.was))
    ∙ byte_read c.args.high c.args.low c.decode_to_slice.result out c.decode_to_slice.ensures.value

pub returns : goal.returns
returns c =
    let out = c.decode_to_slice.new.out in
    sym (ap (option_map (λ _. get_or out 0 0)) (sym c.ok.ensures.value ∙ c.in_ok-ok.was))
    ∙ byte_read c.args.high c.args.low c.decode_to_slice.result out c.decode_to_slice.ensures.value
