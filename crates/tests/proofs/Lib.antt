mod MaskExamples
mod TaskExamples
