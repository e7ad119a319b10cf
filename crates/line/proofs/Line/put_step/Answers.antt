use Rattle.std.proofs.Common.{◌≡◌, Ok, Err, refl, sym, ap, ◌∙◌, subst}
use Rattle.std.specs.List.{flat_map}
use Rattle.std.proofs.lemmas.Result.{err_from_is_err_and}
use Rattle.block.specs.Block.{bytes_of, blocks_of}
use Rattle.protocol.specs.Rules.{answer, outcome}
use Rattle.stream.specs.Stream.{outs, last_register, fitting, overwritten}
use Rattle.stream.proofs.Through.{directed_step}
use Rattle.line.specs.Model.{Call, after as model, refusal_to, event_of}
use Rattle.line.specs.Performs.{params_of}
use Rattle.line.proofs.Performed.{refused, put_taken}
use Rattle.line.proofs.Line.put_step.Goals as goal

pub returns-in_err-answer : goal.returns-in_err-answer
returns-in_err-answer g c =
    let old = c.args.self.now in
    let s = old.machine.state in
    let p = params_of g.K.Kind.opening g.M.Mode.steps g.C.Cipher.meaning old in
    let call = Call.Put c.args.input.now c.args.output.now in
    let said = c.in_err-answer.ensures in
    let opens : c.opens.result ≡ p.opens = c.opens.ensures ∙ c.directed-through.ensures.kind in
    let e = err_from_is_err_and c.from_residual.result c.from_residual.ensures.1 in
    rw (e.1, e.2) (record {
      did = refused p s call c.advance.new.self.state _ _ (said.result ∙ ap (λ b. outcome (refusal_to p s call) (answer p.number b s (event_of p s call))) opens) said.after;
      block_mode = refl;
      number = refl;
    })

pub returns : goal.returns
returns g c =
    let old = c.args.self.now in
    let s = old.machine.state in
    let p = params_of g.K.Kind.opening g.M.Mode.steps g.C.Cipher.meaning old in
    let input = c.args.input.now in
    let output = c.args.output.now in
    let call = Call.Put input output in
    let after = c.advance.new.self.state in
    let said = c.in_ok-answer.ensures in
    let way = c.directed-through.ensures in
    let opens : c.opens.result ≡ p.opens = c.opens.ensures ∙ way.kind in
    let step = directed_step g.K.Kind.opening g.M.Mode.steps g.C.Cipher.meaning old.block_mode c.directed-through.result way.kind way.cipher way.mode in
    let from : c.state.result.register ≡ after.register = ap (λ t. t.register) c.state.ensures in
    let register : c.pass-register.result ≡ last_register p.step after.register (blocks_of (fitting input output)) =
    c.pass-register.ensures.register ∙ (λ i. last_register (step i) (from i) (blocks_of (fitting input output))) in
    let out : c.pass-register.new.output ≡ overwritten (flat_map bytes_of (outs p.step after.register (blocks_of (fitting input output)))) output =
    c.pass-register.ensures.out ∙ (λ i. overwritten (flat_map bytes_of (outs (step i) (from i) (blocks_of (fitting input output)))) output) in
    let told = said.result ∙ ap (λ b. outcome (refusal_to p s call) (answer p.number b s (event_of p s call))) opens in
    record {
      did = subst (λ t. model p s call ≡ record { state = t; answer = Ok c.in_ok-answer.answer; out = c.pass-register.new.output }) (sym c.set_register.ensures) (put_taken p s after input output _ c.pass-register.result c.pass-register.new.output told said.after register out);
      block_mode = refl;
      number = refl;
    }
