use Rattle.std.proofs.Common.{◌<◌, length, ◌∙◌, arith}
use Rattle.std.proofs.lemmas.List.Elements.{All-from_get_or}
use Rattle.crc.specs.Crc.{Bytes}
use Rattle.image.specs.Layout.{layout}
use Rattle.image.proofs.Encoding.{sound}
use Rattle.image.proofs.ImageForm.{read_write}
use Rattle.image.proofs.Damage.{damage_found}
use Rattle.image.proofs.reader.read.Goals as goal

pub returns : goal.returns
returns c =
    let image = c.args.image.now in
    let room = length c.args.code.now in
    let each : Bytes image = All-from_get_or (λ b. b < 256) image 0 (λ i h. omega (arith, c.type_inv.image i)) in
    let reply = c.read_image.ensures.reply in
    let store = c.read_image.ensures.store in
    record {
      reply = reply;
      store = store;
      one_form = read_write layout sound image c.args.code.now c.read_image.new.code c.read_image.result each reply store;
      damage = λ index original d. reply ∙ damage_found layout image room each index original d;
    }
