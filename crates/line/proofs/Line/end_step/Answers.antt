use Rattle.std.proofs.Common.{◌≡◌, length, refl, ap, ◌∙◌}
use Rattle.std.proofs.lemmas.Result.{err_from_is_err_and}
use Rattle.protocol.specs.declared.state.Event.TheVariants as event
use Rattle.protocol.specs.Rules.{refusal, answer, outcome}
use Rattle.stream.specs.Stream.{last_of, last_bytes, fitting, overwritten}
use Rattle.stream.proofs.Through.{directed_step}
use Rattle.line.specs.Performs.{params_of}
use Rattle.line.proofs.Performed.{end_taken, end_refused}
use Rattle.line.proofs.Line.end_step.Goals as goal

pub returns-in_err-answer : goal.returns-in_err-answer
returns-in_err-answer g c =
    let old = c.args.self.now in
    let s = old.machine.state in
    let p = params_of g.K.Kind.opening g.M.Mode.steps g.C.Cipher.meaning old in
    let input = c.args.input.now in
    let output = c.args.output.now in
    let last = c.last_block-last.result in
    let way = c.directed-through.ensures in
    let step = directed_step g.K.Kind.opening g.M.Mode.steps g.C.Cipher.meaning old.block_mode c.directed-through.result way.kind way.cipher way.mode in
    let worked : last ≡ last_of p.opens p.step s.register input =
    c.last_block-last.ensures ∙ (λ i. last_of (way.kind i) (step i) (c.state.ensures i).register input) in
    let opens : c.opens.result ≡ p.opens = c.opens.ensures ∙ way.kind in
    let said = c.in_err-answer.ensures in
    let call = event.End c.args.line c.args.file last (length output) in
    let told = said.result ∙ ap (λ b. outcome (refusal p.number s call) (answer p.number b s call)) opens in
    let e = err_from_is_err_and c.from_residual.result c.from_residual.ensures.1 in
    rw (e.1, e.2) (record {
      did = end_refused p s c.advance.new.self.state c.args.line c.args.file input output last worked said.after _ told;
      block_mode = refl;
      number = refl;
    })

pub returns : goal.returns
returns g c =
    let old = c.args.self.now in
    let s = old.machine.state in
    let p = params_of g.K.Kind.opening g.M.Mode.steps g.C.Cipher.meaning old in
    let input = c.args.input.now in
    let output = c.args.output.now in
    let last = c.last_block-last.result in
    let way = c.directed-through.ensures in
    let step = directed_step g.K.Kind.opening g.M.Mode.steps g.C.Cipher.meaning old.block_mode c.directed-through.result way.kind way.cipher way.mode in
    let worked : last ≡ last_of p.opens p.step s.register input =
    c.last_block-last.ensures ∙ (λ i. last_of (way.kind i) (step i) (c.state.ensures i).register input) in
    let opens : c.opens.result ≡ p.opens = c.opens.ensures ∙ way.kind in
    let said = c.in_ok-answer.ensures in
    let call = event.End c.args.line c.args.file last (length output) in
    let told = said.result ∙ ap (λ b. outcome (refusal p.number s call) (answer p.number b s call)) opens in
    record {
      did = end_taken p s c.advance.new.self.state c.args.line c.args.file input output last worked said.after _ c.write_last.new.output told
          (c.write_last.ensures ∙ ap (λ b. overwritten (fitting (last_bytes b last) output) output) way.kind);
      block_mode = refl;
      number = refl;
    }
