use native.Mathlib.Omega.{arith}
use mathlib.Core.Path.{◌∙◌}
use Rattle.writer_laws.proofs.SizeLaws.{encode-size, head-within, flows-room, job-placed}
use Rattle.job_writer.proofs.put_job.Goals as goal

pub put_head-requires : goal.put_head-requires
put_head-requires c =
    omega (arith, encode-size c.args.job, head-within c.args.job, c.requires.1)

pub put_version-requires : goal.put_version-requires
put_version-requires c =
    omega (arith, encode-size c.args.job, c.requires.1)

pub put_quotes-requires : goal.put_quotes-requires
put_quotes-requires c =
    let sound = c.requires.0 in
    omega (arith, c.quotes_from-quotes_at.ensures.0, encode-size c.args.job, c.requires.1, sound.steps, sound.kinds.size, sound.figures.size)

pub put_flows-requires : goal.put_flows-requires
put_flows-requires c =
    let sound = c.requires.0 in
    flows-room c.args.job sound _ c.quotes_from-quotes_at.ensures.0 _ _ c.requires.1
    (c.put_quotes.auto.out ∙ c.put_version.auto.out ∙ c.put_head.auto.out)

pub put_option-requires : goal.put_option-requires
put_option-requires c =
    (c.requires.0.option, omega (arith, c.quotes_from-quotes_at.ensures.0, encode-size c.args.job, c.requires.1))

pub returns : goal.returns
returns c =
    let from = c.quotes_from-quotes_at.ensures.0 in
    job-placed c.args.job _ from _ (omega (arith, from, encode-size c.args.job, c.requires.1)) c.put_head.ensures
    c.put_version.ensures c.put_quotes.ensures c.put_flows.ensures c.put_option.ensures
