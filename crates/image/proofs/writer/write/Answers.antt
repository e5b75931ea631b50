use Rattle.std.proofs.Common.{◌≡◌, length, get_or, IfOk, arith}
use Rattle.std.specs.Prelude.{All}
use Rattle.std.proofs.lemmas.List.Elements.{All-from_get_or}
use Rattle.std.proofs.lemmas.Result.{IfOk-weaker}
use Rattle.image.specs.Layout.{blank, decode, encode, layout}
use Rattle.image.specs.Writing.{Words}
use Rattle.image.proofs.Encoding.{sound, decode_encode}
use Rattle.image.proofs.ImageForm.{write_read, sixty_three}
use Rattle.image.proofs.writer.write.Goals as goal

pub returns : goal.returns
returns c =
    let code = c.args.code.now in
    let r = c.write_image.result in
    let each : IfOk r (λ _. All (λ i. decode (encode i) ≡ i) code) =
    IfOk-weaker r (λ _. Words code (length code)) (λ _. All (λ i. decode (encode i) ≡ i) code)
    (λ _ words. All-from_get_or (λ i. decode (encode i) ≡ i) code blank (λ k h. decode_encode (get_or code k blank) (words k h)))
    c.write_image.ensures.words in
    let reply = c.write_image.ensures.reply in
    let store = c.write_image.ensures.store in
    record {
      reply = reply;
      store = store;
      read_back = write_read layout sound c.args.number code c.args.store.now c.write_image.new.store r
          (omega arith) each reply store;
      sample = sixty_three;
    }
